-- The members of a group, by the numbers of their parts.
use Rattle.std.proofs.Common.{◌≡◌, ℕ, zero, suc, ◌<◌, ◌↔◌, Bool, List, [], ◌∷◌, length, get_or, refl, ap, arith}
use Rattle.std.specs.Prelude.{All as Each}
use Rattle.std.proofs.lemmas.List.Elements.{All-nil, All-cons, All-head, All-tail}
use Rattle.xs_components.specs.declared.common.TypeId.{TypeId}
use Rattle.particle_models.specs.Trees.{Tree}
use Rattle.particle_models.specs.Parts.{tree_at, members_at}
use Rattle.particle_models.specs.declared.part.Bounds.{Bounds}
use Rattle.particle_restrict.specs.Totals.{emptiable_members}
use Rattle.particle_restrict.specs.Restricts.{count, tree_nth, LeafRestricts, LeafRestrictsNth, Restricts, AllRestrict, NthRestricts}
use Rattle.particle_restrict.specs.declared.terms.Term.{Term}

module _ (trees : List Tree) where
  pub count-members : (ms : List ℕ) → count (members_at trees ms) ≡ length ms
  count-members [] = refl
  count-members (m ∷ ms) = ap suc (count-members ms)

  pub length-emptiable : (ms : List ℕ) → length (emptiable_members (members_at trees ms)) ≡ length ms
  length-emptiable [] = refl
  length-emptiable (m ∷ ms) = ap suc (length-emptiable ms)

  pub nth-members : (ms : List ℕ) (j : ℕ) → j < length ms → tree_nth (members_at trees ms) j ≡ tree_at trees (get_or ms j 0)
  nth-members [] j l = absurd (omega arith)
  nth-members (m ∷ ms) zero l = refl
  nth-members (m ∷ ms) (suc j) l = nth-members ms j (omega arith)

module _ (terms : List Term) (derives : TypeId → TypeId → Bool) (trees : List Tree) where
  pub leaf-nth : (bounds : Bounds) (t : ℕ) (ms : List ℕ) (j : ℕ) → j < length ms →
      LeafRestrictsNth terms derives bounds t (members_at trees ms) j ↔ LeafRestricts terms derives bounds t (tree_at trees (get_or ms j 0))
  leaf-nth bounds t [] j l = absurd (omega arith)
  leaf-nth bounds t (m ∷ ms) zero l = ((λ h. h), (λ h. h))
  leaf-nth bounds t (m ∷ ms) (suc j) l = leaf-nth bounds t ms j (omega arith)

  pub nth-restricts : (base : Tree) (ms : List ℕ) (i : ℕ) → i < length ms →
      NthRestricts terms derives (members_at trees ms) i base ↔ Restricts terms derives (tree_at trees (get_or ms i 0)) base
  nth-restricts base [] i l = absurd (omega arith)
  nth-restricts base (m ∷ ms) zero l = ((λ h. h), (λ h. h))
  nth-restricts base (m ∷ ms) (suc i) l = nth-restricts base ms i (omega arith)

  pub all-restrict : (base : Tree) (ms : List ℕ) → AllRestrict terms derives (members_at trees ms) base ↔ Each (λ m. Restricts terms derives (tree_at trees m) base) ms
  all-restrict base [] = ((λ h. All-nil (λ m. Restricts terms derives (tree_at trees m) base)), (λ h. tt))
  all-restrict base (m ∷ ms) =
      let r = all-restrict base ms in (
        (λ h. All-cons (λ m. Restricts terms derives (tree_at trees m) base) m ms h.0 (r.0 h.1)),
        (λ h. (All-head (λ m. Restricts terms derives (tree_at trees m) base) m ms h, r.1 (All-tail (λ m. Restricts terms derives (tree_at trees m) base) m ms h))),
      )
