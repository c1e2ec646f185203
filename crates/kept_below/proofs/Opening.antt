-- What governs each element of a document, from the root downwards, and what opening counts.
use Rattle.std.proofs.Common.{◌≡◌, ◌≢◌, ℕ, zero, suc, ◌+◌, ◌≤◌, List, [], ◌∷◌, length, true, false, Option, None, Some, sym, ap, ◌∙◌, subst, arith}
use Rattle.std.specs.Prelude.{slice_get, nat_eq, if◌then◌else◌}
use Rattle.std.proofs.lemmas.Bool.Decides.{nat_tests}
use Rattle.std.proofs.lemmas.Option.{same_Some, none-some}
use Rattle.xs_names.specs.Names.{NameTable}
use Rattle.tree_rows.specs.Forest.{Forest, none, text, element, Document, count}
use Rattle.elem_governing.specs.declared.pairs.Governing.{Governing}
use Rattle.compiled_schema.specs.declared.compiled.Compiled.{Compiled}
use Rattle.doc_nodes.specs.Nodes.{Nodes, node, Distinct, depth_by, children_by, is_element_at, element_children}
use Rattle.doc_nodes.proofs.Among.{lacks-has}
use Rattle.doc_changes.specs.Held.{parent_at}
use Rattle.doc_changes.specs.Stands.{StandsFor}
use Rattle.doc_changes.specs.Readers.{element_numbers}
use Rattle.doc_changes.proofs.Reading.{depth_below}
use Rattle.kept_slots.specs.Slots.{at}
use Rattle.child_listing.specs.from_kept_records.Slots.{KeptSlots}
use Rattle.child_listing.proofs.from_kept_records.Nodes.{there, child-parent}
use Rattle.child_listing.specs.from_kept_judging.Judged.{pair_by}
use Rattle.kept_below.specs.Moved.{is_typed, moved, AreGivenDown}
use Rattle.kept_forgetting.proofs.Depths.{root-parent, root-depth}
use Rattle.child_listing.proofs.Distinct.{distinct-filter}
use Rattle.kept_forgetting.proofs.Walks.{has-get}

-- ---- the place of a number

abbrev place-of : ℕ → List ℕ → ℕ
place-of x [] = 0
place-of x (y ∷ ys) = if nat_eq y x then 0 else suc (place-of x ys)

same-test : (a b : ℕ) → a ≡ b → nat_eq a b ≡ true
same-test a b e = grind (arith, nat_tests)

other-test : (a b : ℕ) → a ≢ b → nat_eq a b ≡ false
other-test a b h = grind (arith, nat_tests)

place-is : (xs : List ℕ) → Distinct xs → (i x : ℕ) → slice_get xs i ≡ Some x → place-of x xs ≡ i
place-is [] d i x e = absurd (none-some x e)
place-is (y ∷ ys) d zero x e = ap (λ b. if b then 0 else suc (place-of x ys)) (same-test y x (same_Some y x e))
place-is (y ∷ ys) d (suc i) x e =
    ap (λ b. if b then 0 else suc (place-of x ys)) (other-test y x (λ q. lacks-has y x ys d.0 (has-get ys i x e) (sym q)))
    ∙ ap suc (place-is ys d.1 i x e)

-- ---- what governs each element

module _ (c : Compiled) (ns : Nodes) (root : Governing) where
  abbrev by-parent : (ℕ → Governing) → ℕ → Option ℕ → Governing
  by-parent g n None = root
  by-parent g n (Some p) = pair_by c ns (g p) p (place-of n (element_children ns p)) n

  abbrev given-at : ℕ → ℕ → Governing
  given-at zero n = root
  given-at (suc levels) n = by-parent (given-at levels) n (parent_at ns n)

  abbrev pub governs : ℕ → Governing
  governs n = given-at (depth_by (node ns n)) n

  module _ (t : NameTable) (d : Document) (z : StandsFor t ns d) where
    pub root-governs : governs 1 ≡ root
    root-governs = ap (λ k. given-at k 1) (root-depth t ns d z) ∙ ap (by-parent (given-at zero) 1) (root-parent t ns d z)

    pub all-given : AreGivenDown c ns governs d.forest
    all-given = record {
      names = t;
      stand = z.nodes;
      given = λ n place child h e.
          let own = there t ns d.forest z.nodes n h in
          let up = child-parent ns z.links n own.0 own.1 place child e in
          let deep : depth_by (node ns child) ≡ suc (depth_by (node ns n)) = (let a = depth_below ns n child z.links up in omega (arith, a)) in
          ap (λ k. given-at k child) deep ∙ ap (by-parent (given-at (depth_by (node ns n))) child) up
          ∙ ap (λ k. pair_by c ns (governs n) n k child)
          (place-is (element_children ns n) (distinct-filter (is_element_at ns) (children_by (node ns n)) (subst (λ o. Distinct (children_by o)) (sym own.1) (z.links.once n own.0 own.1))) place child e);
    }

-- ---- where nothing is kept

pub opening-counts : (ks : KeptSlots) (governs : ℕ → Governing) → ((n : ℕ) → at ks n ≡ None) → (f : Forest) → length (element_numbers f) + moved ks governs f ≤ count f
opening-counts ks governs nothing none = omega arith
opening-counts ks governs nothing (text number chars next) = let later = opening-counts ks governs nothing next in omega (arith, later)
opening-counts ks governs nothing (element number name bindings attributes children next) =
    let below = opening-counts ks governs nothing children in
    let later = opening-counts ks governs nothing next in
    let own : (if is_typed (at ks number) (governs number).of then 0 else length (element_numbers children)) ≡ length (element_numbers children) =
    ap (λ o. if is_typed o (governs number).of then 0 else length (element_numbers children)) (nothing number) in
    omega (arith, below, later, own)
