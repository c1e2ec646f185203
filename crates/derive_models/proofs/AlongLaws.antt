-- Derivation from a type without members goes by bases alone.
use Rattle.std.proofs.Common.{◌≡◌, ◌↔◌, Bool, true, false, List, [], None, Some, refl, sym, ◌∙◌, subst, arith}
use Rattle.std.specs.Prelude.{Contains, IsTrue}
use Rattle.std.proofs.lemmas.Bool.{true≢false}
use Rattle.std.proofs.lemmas.Option.{same_Some}
use Rattle.xs_components.specs.Tables.{Tables}
use Rattle.xs_components.specs.declared.common.TypeId.{TypeId}
use Rattle.type_derivation.specs.Derives.{above, members_of}
use Rattle.type_derivation.specs.Chains.{Derives, same, by_base}
use Rattle.type_derivation.specs.Within.{IsWithin, itself, inside, AreSimple}
use Rattle.type_derivation.proofs.ChainLaws.{Up, up}
use Rattle.derive_models.specs.Derivation.{excluded}

none-some : {X : Type 0} (x : X) → None ≡ Some x → ⊥
none-some x e = cc

nothing-in : {X : Type 0} (x : X) → Contains [] x → ⊥
nothing-in x c = absurd (omega (arith, c.1))

module _ (t : Tables) where
  nothing-within : (base at : TypeId) → members_of t base ≡ [] → (at ≡ base → ⊥) → IsWithin t base at → ⊥
  nothing-within _ _ alone other (itself one) = other refl
  nothing-within _ _ alone other (inside base member at c w) = nothing-in member (subst (λ (ms : List TypeId). Contains ms member) alone c)

  module _ (simple : AreSimple t) (base at : TypeId) (alone : members_of t base ≡ []) (b : Bool) (tells : IsTrue b ↔ (at ≡ base)) where
    -- the same type
    pub ends-same : b ≡ true → Derives t excluded at base
    ends-same e = subst (Derives t excluded at) (tells.0 e) (same at)

    other-than : b ≡ false → at ≡ base → ⊥
    other-than e is = true≢false (sym (tells.1 is) ∙ e)

    by-up : b ≡ false → Derives t excluded at base → Up t excluded at base
    by-up e d = up t excluded simple at base (other-than e) (λ plain free w. nothing-within base at alone (other-than e) w) d

    -- another, that restricts nothing
    pub ends-other : b ≡ false → above t excluded at ≡ None → Derives t excluded at base → ⊥
    ends-other e none d = let u = by-up e d in none-some u.next (sym none ∙ u.there)

    -- another, that restricts the next
    pub goes-on : b ≡ false → (next : TypeId) → above t excluded at ≡ Some next → Derives t excluded at base ↔ Derives t excluded next base
    goes-on e next there = (
      (λ d. let u = by-up e d in subst (λ x. Derives t excluded x base) (same_Some u.next next (sym u.there ∙ there)) u.derives),
      by_base at next base there,
    )
