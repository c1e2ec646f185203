-- Derivation from a member of a union, where what is within the union is known.
use Rattle.std.proofs.Common.{◌≡◌, ◌≤◌, ◌↔◌, Bool, true, false, None, Some, refl, sym, ap, ◌∙◌, subst, arith}
use Rattle.std.specs.Prelude.{Contains, IsTrue}
use Rattle.std.proofs.lemmas.Bool.{true≢false}
use Rattle.std.proofs.lemmas.List.Elements.{All-contains}
use Rattle.std.proofs.lemmas.Option.{none-some, same_Some}
use Rattle.xs_components.specs.Tables.{Tables}
use Rattle.xs_components.specs.declared.common.Methods.{Methods}
use Rattle.xs_components.specs.declared.common.TypeId.{TypeId}
use Rattle.component_references.specs.Heights.{IsType, IsLower, type_height}
use Rattle.component_references.specs.Ranked.{IsRanked}
use Rattle.type_derivation.specs.Derives.{above, members_of, is_simple}
use Rattle.type_derivation.specs.Chains.{Derives, by_base, DerivesFromMember}
use Rattle.type_derivation.specs.Within.{IsWithin, itself, inside, AreSimple, Marks, IsMarked, AreWithin}
use Rattle.type_derivation.proofs.ChainLaws.{marked-simple, within-derives, up, Up}
use Rattle.type_derivation.proofs.MemberLaws.{members-lower, member-simple}

module _ (t : Tables) (ranked : IsRanked t) where
  -- what is within a type is no higher
  within-low : (base x : TypeId) → IsWithin t base x → type_height t x ≤ type_height t base
  within-low _ _ (itself x) = omega arith
  within-low _ _ (inside base member x c w) =
      let l = (All-contains (IsLower t (type_height t base)) (members_of t base) member (members-lower t ranked base) c).lower in
      let m = within-low member x w in
      omega (arith, l, m)

  -- so the base is within none of its members
  not-base : (base member x : TypeId) → Contains (members_of t base) member → IsWithin t member x → x ≡ base → ⊥
  not-base base member x c w e =
      let l = (All-contains (IsLower t (type_height t base)) (members_of t base) member (members-lower t ranked base) c).lower in
      let m = within-low member x w in
      let h : type_height t x ≡ type_height t base = ap (type_height t) e in
      absurd (omega (arith, l, m, h))

within-plain : (t : Tables) → AreSimple t → (base x : TypeId) → is_simple base ≡ true → IsWithin t base x → is_simple x ≡ true
within-plain t simple _ _ s (itself x) = s
within-plain t simple _ _ s (inside base member x c w) = within-plain t simple member x (member-simple t simple base member c) w

module _ (t : Tables) (excluded : Methods) (ranked : IsRanked t) (simple : AreSimple t) (free : excluded.restriction ≡ false) (marks : Marks) (at : TypeId) (is : IsType t at) (are : AreWithin t marks) where
  abbrev Inside : Type 0
  Inside = (at ≡ marks.base → ⊥) × IsMarked marks at

  -- what is within a member is inside
  has-inside : (member : TypeId) → Contains (members_of t marks.base) member → IsWithin t member at → Inside
  has-inside member c w =
      let plain = within-plain t simple member at (member-simple t simple marks.base member c) w in
      (not-base t ranked marks.base member at c w, (are.exact at is plain).1 (inside marks.base member at c w))

  of-within : (base : TypeId) → IsWithin t base at → (at ≡ base → ⊥) → is_simple at ≡ true → DerivesFromMember t excluded at base
  of-within _ (itself _) other plain = absurd (other refl)
  of-within _ (inside base member _ c w) other plain = (free, member, c, within-derives t excluded member at plain free w)

  pub inside-derives : Inside → DerivesFromMember t excluded at marks.base
  inside-derives (other, m) = let plain = marked-simple marks at m in of-within marks.base ((are.exact at is plain).0 m) other plain

  module _ (b : Bool) (tells : IsTrue b ↔ Inside) where
    outside : b ≡ false → Inside → ⊥
    outside e i = true≢false (sym (tells.1 i) ∙ e)

    goes : b ≡ false → (d : DerivesFromMember t excluded at marks.base) → Up t excluded at d.1
    goes e (f, member, c, d) =
        up t excluded simple at member (λ one. outside e (has-inside member c (subst (λ x. IsWithin t member x) (sym one) (itself member)))) (λ plain r w. outside e (has-inside member c w)) d

    pub ends-inside : b ≡ true → DerivesFromMember t excluded at marks.base
    ends-inside e = inside-derives (tells.0 e)

    pub ends-outside : b ≡ false → above t excluded at ≡ None → DerivesFromMember t excluded at marks.base → ⊥
    ends-outside e none d = let u = goes e d in none-some u.next (sym none ∙ u.there)

    pub goes-on : b ≡ false → (next : TypeId) → above t excluded at ≡ Some next → DerivesFromMember t excluded at marks.base ↔ DerivesFromMember t excluded next marks.base
    goes-on e next there = (
      (λ d. let u = goes e d in (free, d.1, d.2, subst (λ x. Derives t excluded x d.1) (same_Some u.next next (sym u.there ∙ there)) u.derives)),
      (λ d. (free, d.1, d.2, by_base at next d.1 there d.3)),
    )
