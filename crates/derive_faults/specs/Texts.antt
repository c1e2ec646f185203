-- The text of a value constraint that is not valid by its type.
use Rattle.std.specs.Prelude.{◌≡◌, Option, None, Some, Result, Ok, Err}
use Rattle.xs_codes.specs.declared.code.Code.{Code}
use Rattle.xs_codes.specs.declared.code.Code.TheVariants.{XLimitValue}
use Rattle.xs_codes.specs.declared.fault.Fault.{Fault}
use Rattle.xs_components.specs.Tables.{Tables}
use Rattle.xs_components.specs.declared.common.Place.{Place}
use Rattle.xs_components.specs.declared.common.TypeId.{TypeId}
use Rattle.xs_components.specs.declared.common.ValueConstraint.{ValueConstraint}
use Rattle.simple_values.specs.declared.value.Value.{Value}
use Rattle.simple_types.specs.Trees.{type_tree}
use Rattle.simple_types.specs.SimpleTypes.{IsValueOf}
use Rattle.derive_faults.specs.TypeFaults.{type_fault}

-- x-limit.value (own): a value of the text would pass a limit; every other text that is not valid breaks the constraint.
abbrev pub refused_code : Code → Code → Code
refused_code broken XLimitValue = XLimitValue
refused_code broken _ = broken

-- The text of a constraint is not valid by a type; it is read in the scope of the schema element that carries it.
abbrev pub IsRefused : Tables → Code → TypeId → ValueConstraint → Code → Type 0
IsRefused t broken of constraint code =
    (refusal : Code) × IsValueOf (type_tree t of) constraint.scope constraint.text (Err refusal) × (code ≡ refused_code broken refusal)

-- a fault of phase 6, of attributes and value constraints, by one of some codes, at a place
abbrev pub IsCoded : Place → (Code → Type 0) → Fault → Type 0
IsCoded at Breaks fault = (code : Code) × Breaks code × (fault ≡ type_fault 6 at code)

-- ---- for proofs

-- the code of what a text comes to
abbrev pub refusal : Code → Result Value Code → Option Code
refusal broken (Ok value) = None
refusal broken (Err code) = Some (refused_code broken code)
