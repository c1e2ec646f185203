-- Derivation, where what is within the base is known.
use Rattle.std.proofs.Common.{◌≡◌, ◌⊎◌, inl, inr, ◌↔◌, Bool, true, false, None, Some, refl, sym, ◌∙◌, subst}
use Rattle.std.specs.Prelude.{Contains, IsTrue}
use Rattle.std.proofs.lemmas.Bool.{true≢false}
use Rattle.xs_components.specs.Tables.{Tables}
use Rattle.xs_components.specs.declared.common.Methods.{Methods}
use Rattle.xs_components.specs.declared.common.TypeId.{TypeId}
use Rattle.xs_components.specs.declared.common.TypeId.TheVariants.{AnyType, Builtin, Simple, Complex}
use Rattle.component_references.specs.Heights.{IsType}
use Rattle.type_derivation.specs.Derives.{above, members_of, is_simple}
use Rattle.type_derivation.specs.Chains.{Derives, same, by_base, by_member}
use Rattle.type_derivation.specs.Within.{IsWithin, itself, inside, AreSimple, Marks, IsMarked, AreWithin}
use Rattle.type_derivation.proofs.BaseLaws.{Plain, above-simple}
use Rattle.type_derivation.proofs.MemberLaws.{member-simple}

-- what is marked is simple
pub marked-simple : (marks : Marks) (x : TypeId) → IsMarked marks x → is_simple x ≡ true
marked-simple marks AnyType m = absurd m
marked-simple marks (Complex id) m = absurd m
marked-simple marks (Builtin b) m = refl
marked-simple marks (Simple id) m = refl

none-some : {X : Type 0} (x : X) → None ≡ Some x → ⊥
none-some x e = cc

some-same : {X : Type 0} (a b : X) → Some a ≡ Some b → a ≡ b
some-same a b e = cc

module _ (t : Tables) (excluded : Methods) where
  -- what is within a type derives from it
  pub within-derives : (base x : TypeId) → is_simple x ≡ true → excluded.restriction ≡ false → IsWithin t base x → Derives t excluded x base
  within-derives _ _ s free (itself x) = same x
  within-derives _ _ s free (inside base member x c w) = by_member x member base s free c (within-derives member x s free w)

  -- anyType derives from no simple type
  any-derives : (m : TypeId) → is_simple m ≡ true → Derives t excluded AnyType m → ⊥
  any-derives _ plain (same _) = true≢false (sym plain)
  any-derives m plain (by_base _ base _ e d) = none-some base e
  any-derives m plain (by_member _ member _ s free c d) = true≢false (sym s)

  -- a type derives by its base
  pub record Up (at base : TypeId) : Type 0 where
    pub next : TypeId
    pub there : above t excluded at ≡ Some next
    pub derives : Derives t excluded next base

  lift : (base member next : TypeId) → excluded.restriction ≡ false → Contains (members_of t base) member → is_simple member ≡ true → Plain t next → Derives t excluded next member → Derives t excluded next base
  lift base member next free c s (inl plain) d = by_member next member base plain free c d
  lift base member next free c s (inr any) d = absurd (any-derives member s (subst (λ x. Derives t excluded x member) any d))

  -- what is neither the base nor within it derives by its own base alone
  pub up : AreSimple t → (at base : TypeId) → (at ≡ base → ⊥) → (is_simple at ≡ true → excluded.restriction ≡ false → IsWithin t base at → ⊥) → Derives t excluded at base → Up at base
  up simple _ _ other out (same one) = absurd (other refl)
  up simple _ _ other out (by_base at next base e d) = record { next = next; there = e; derives = d }
  up simple _ _ other out (by_member at member base s free c d) =
      let u = up simple at member (λ one. out s free (inside base member at c (subst (λ x. IsWithin t x at) one (itself at)))) (λ plain f w. out plain f (inside base member at c w)) d in
      let plain : Plain t u.next = rw u.there at (above-simple t simple excluded at s) in
      record { next = u.next; there = u.there; derives = lift base member u.next free c (member-simple t simple base member c) plain u.derives }

  module _ (simple : AreSimple t) (marks : Marks) (at : TypeId) (is : IsType t at) (are : AreWithin t marks) where
    abbrev pub Met : Type 0
    Met = (at ≡ marks.base) ⊎ ((excluded.restriction ≡ false) × IsMarked marks at)

    -- what is met derives
    met-derives : Met → Derives t excluded at marks.base
    met-derives (inl one) = subst (Derives t excluded at) one (same at)
    met-derives (inr both) = let plain = marked-simple marks at both.1 in within-derives marks.base at plain both.0 ((are.exact at is plain).0 both.1)

    -- what is not derives by its base alone
    unmet-up : (Met → ⊥) → Derives t excluded at marks.base → Up at marks.base
    unmet-up not d = up simple at marks.base (λ one. not (inl one)) (λ plain free w. not (inr (free, (are.exact at is plain).1 w))) d

    module _ (b : Bool) (tells : IsTrue b ↔ Met) where
      pub ends-met : b ≡ true → Derives t excluded at marks.base
      ends-met e = met-derives (tells.0 e)

      unmet : b ≡ false → Met → ⊥
      unmet e m = true≢false (sym (tells.1 m) ∙ e)

      pub ends-unmet : b ≡ false → above t excluded at ≡ None → Derives t excluded at marks.base → ⊥
      ends-unmet e none d = let u = unmet-up (unmet e) d in none-some u.next (sym none ∙ u.there)

      pub goes-up : b ≡ false → (next : TypeId) → above t excluded at ≡ Some next → Derives t excluded at marks.base ↔ Derives t excluded next marks.base
      goes-up e next there = (
        (λ d. let u = unmet-up (unmet e) d in subst (λ x. Derives t excluded x marks.base) (some-same u.next next (sym u.there ∙ there)) u.derives),
        by_base at next marks.base there,
      )
