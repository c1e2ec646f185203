-- Derivation Valid (Restriction, Complex) (Structures 3.4.6), but for content models.
use Rattle.std.specs.Prelude.{◌≡◌, ◌⊎◌, ℕ, Bool, true, false, Ok}
use Rattle.xs_codes.specs.declared.code.Code.{Code}
use Rattle.xs_codes.specs.declared.code.Code.TheVariants.{DerivationOkRestriction1}
use Rattle.xs_codes.specs.declared.fault.Fault.{Fault}
use Rattle.xs_names.specs.Names.{NameTable}
use Rattle.xs_components.specs.Tables.{Tables}
use Rattle.xs_components.specs.declared.common.TypeId.{TypeId}
use Rattle.xs_components.specs.declared.common.TypeId.TheVariants.{AnyType, Builtin, Simple, Complex}
use Rattle.xs_components.specs.declared.complex.ComplexType.{ComplexType}
use Rattle.attr_uses.specs.Uses.{AttrUses, uses_of}
use Rattle.derive_faults.specs.Finals.{finals_of}
use Rattle.derive_faults.specs.TypeFaults.{IsTypeFault}
use Rattle.derive_restriction.specs.Uses.{BreaksUses}
use Rattle.derive_restriction.specs.Wildcards.{BreaksWildcard}
use Rattle.derive_restriction.specs.Contents.{BreaksContent}

abbrev pub is_any_type : TypeId → Bool
is_any_type AnyType = true
is_any_type (Builtin kind) = false
is_any_type (Simple id) = false
is_any_type (Complex id) = false

-- the attribute uses and the wildcard of the complex type of a number against those of a base, where both have them
abbrev pub BreaksTables : Tables → NameTable → ℕ → TypeId → Code → Type 0
BreaksTables t names n base_type code =
    (own base : AttrUses) × (uses_of t (Complex n) ≡ Ok own) × (uses_of t base_type ≡ Ok base)
    × (BreaksUses t names own base code ⊎ BreaksWildcard (is_any_type base_type) own.wildcard base.wildcard code)

module _ (t : Tables) (names : NameTable) (n : ℕ) (part : ComplexType) where
  -- derivation-ok-restriction.1: the {final} of the base has restriction.
  abbrev pub IsBaseFinal : Code → Type 0
  IsBaseFinal code = ((finals_of t part.base).restriction ≡ true) × (code ≡ DerivationOkRestriction1)

  abbrev pub BreaksAny : Code → Type 0
  BreaksAny code = IsBaseFinal code ⊎ (BreaksTables t names n part.base code ⊎ BreaksContent t part code)

  -- the type is a restriction, and breaks one of these
  abbrev pub BreaksRestriction : Code → Type 0
  BreaksRestriction code = (part.by_extension ≡ false) × BreaksAny code

abbrev pub Breaks : Tables → NameTable → ℕ → ComplexType → Code → Type 0
Breaks t names n part code = BreaksRestriction t names n part code

-- a fault of some complex type in phase 7, of derivation
abbrev pub IsRestrictionFault : Tables → NameTable → Fault → Type 0
IsRestrictionFault t names fault = IsTypeFault 7 t (Breaks t names) fault
