-- Which text of an element is used, and what it comes to (Structures 3.3.4, cvc-elt.5).
use Rattle.std.specs.Prelude.{ℕ, Bool, not, ◌&&◌, List, Option, None, Some, if◌then◌else◌}
use Rattle.xs_components.specs.declared.common.ValueConstraint.{ValueConstraint}
use Rattle.simple_values.specs.declared.value.Value.{Value}
use Rattle.assess_records.specs.declared.outcome.ValueSource.{ValueSource}
use Rattle.assess_records.specs.declared.outcome.ValueSource.TheVariants.{Given, Schema}
use Rattle.assess_records.specs.declared.shape.ElementShape.{ElementShape}
use Rattle.elem_codes.specs.declared.outcome.TextOutcome.{TextOutcome}
use Rattle.elem_codes.specs.declared.outcome.TextOutcome.TheVariants.{NotRead, Invalid, Valid}

-- the source of the text
abbrev pub source_of : Bool → ValueSource
source_of taken = if taken then Schema else Given

-- the characters of the element, or those of the constraint that are taken
abbrev pub text_used : Bool → Option ValueConstraint → ElementShape → List ℕ
text_used taken None shape = shape.text
text_used taken (Some constraint) shape = if taken then constraint.text else shape.text

-- the text of a constraint is read in the scope of the schema element that carries it
abbrev pub scope_used : Bool → Option ValueConstraint → ElementShape → List (List ℕ × ℕ)
scope_used taken None shape = shape.scope
scope_used taken (Some constraint) shape = if taken then constraint.scope else shape.scope

-- the fixed value that the element's own text has to come to
abbrev pub fixed_value : Bool → Option ValueConstraint → Option ValueConstraint
fixed_value taken None = None
fixed_value taken (Some constraint) = if constraint.fixed && not taken then Some constraint else None

-- the value of a text that is valid
abbrev pub value_in : TextOutcome → Option Value
value_in NotRead = None
value_in (Invalid code) = None
value_in (Valid value met) = Some value
