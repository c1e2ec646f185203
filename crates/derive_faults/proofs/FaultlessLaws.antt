-- What complex types have where none has a fault.
use Rattle.std.proofs.Common.{◌≡◌, ◌⊎◌, inl, inr, ℕ, zero, suc, ◌<◌, Bool, List, [], ◌∷◌, Option, None, Some, Result, Ok, Err, length, slice_get, refl, arith}
use Rattle.xs_codes.specs.declared.code.Code.TheVariants.{CtPropsCorrect4}
use Rattle.xs_codes.specs.declared.fault.Fault.{Fault}
use Rattle.xs_components.specs.Tables.{Tables}
use Rattle.xs_components.specs.declared.common.TypeId.TheVariants.{Complex}
use Rattle.xs_components.specs.declared.complex.ComplexType.{ComplexType}
use Rattle.xs_codes.specs.Least.{IsLeast}
use Rattle.attr_uses.specs.Uses.{AttrUses, uses_of}
use Rattle.attr_uses.specs.Tables.{HasTwoOfOneName}
use Rattle.derive_faults.specs.TypeFaults.{type_fault}
use Rattle.derive_faults.specs.AttrFaults.{IsAttrFault, HasUses}

part-there : (parts : List ComplexType) (n : ℕ) → n < length parts → (part : ComplexType) × (slice_get parts n ≡ Some part)
part-there [] n l = absurd (omega (arith, l))
part-there (part ∷ parts) zero l = (part, refl)
part-there (part ∷ parts) (suc n) l = part-there parts n (omega (arith, l))

module _ (t : Tables) (ids : List Bool) (none : IsLeast (IsAttrFault t ids) None) (n : ℕ) (there : n < length t.complexes.parts) where
  no-two : (own : AttrUses) → uses_of t (Complex n) ≡ Ok own → HasTwoOfOneName t own.uses → ⊥
  no-two own are two =
      let at = part-there t.complexes.parts n there in
      none (type_fault 6 at.0.at CtPropsCorrect4) (inl (n, (there, inr (at.0, CtPropsCorrect4, at.1, (own, are, inl (two, refl)), refl))))

  from : (answer : Result AttrUses Fault) → uses_of t (Complex n) ≡ answer → HasUses t n
  from (Ok own) are = record { own = own; are = are; once = no-two own are }
  from (Err fault) are = absurd (none fault (inl (n, (there, inl are))))

pub has-uses : (t : Tables) (ids : List Bool) → IsLeast (IsAttrFault t ids) None → (n : ℕ) → n < length t.complexes.parts → HasUses t n
has-uses t ids none n there = from t ids none n there (uses_of t (Complex n)) refl
