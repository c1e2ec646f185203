-- Faults of value constraints.
use Rattle.std.specs.Prelude.{◌⊎◌, ℕ}
use Rattle.xs_codes.specs.declared.fault.Fault.{Fault}
use Rattle.xs_components.specs.Tables.{Tables}
use Rattle.derive_faults.specs.Attributes.{IsDeclAt, IsTypeAt, IsGroupAt}
use Rattle.derive_faults.specs.Elements.{IsElementAt}

module _ (t : Tables) where
  -- of some attribute declaration; of some attribute use of a complex type or of an attribute group
  abbrev pub IsAttributeFault : Fault → Type 0
  IsAttributeFault fault = ((n : ℕ) × IsDeclAt t n fault) ⊎ (((n : ℕ) × IsTypeAt t n fault) ⊎ ((n : ℕ) × IsGroupAt t n fault))

  -- of some element declaration
  abbrev pub IsElementFault : Fault → Type 0
  IsElementFault fault = (n : ℕ) × IsElementAt t n fault

  -- a fault of some value constraint in phase 6, of attributes and value constraints
  abbrev pub IsValueFault : Fault → Type 0
  IsValueFault fault = IsAttributeFault fault ⊎ IsElementFault fault
