-- The faults of each of the first phases have its number.
use Rattle.std.proofs.Common.{◌≡◌, inl, inr, ℕ, ◌-◌, List, slice_get, Option, None, Some, sym, ap}
use Rattle.std.specs.Option.{option_and_then}
use Rattle.std.proofs.lemmas.Option.{none-some, same_Some}
use Rattle.xs_codes.specs.declared.fault.Fault.{Fault}
use Rattle.xs_names.specs.Names.{NameTable}
use Rattle.xs_components.specs.Tables.{Tables}
use Rattle.schema_faults.specs.Faults.{least_fault}
use Rattle.schema_faults.specs.declared.broken.Broken.{Broken}
use Rattle.schema_shape.specs.Shaped.{constructs_of, fault_at, shape_fault}
use Rattle.schema_set.specs.declared.documents.Available.{Available}
use Rattle.schema_set.specs.declared.inputs.SchemaInput.{SchemaInput}
use Rattle.schema_set.specs.Documents.{IsShapeFault}
use Rattle.representations.specs.declared.origins.Origin.{Origin}
use Rattle.representations.specs.declared.parts.Representation.{Representation}
use Rattle.component_references.specs.Circles.{IsCircular}
use Rattle.type_derivation.specs.Cycles.{IsBroken}
use Rattle.schema_check.specs.Compilation.{BreaksComposition}
use Rattle.schema_check.specs.Components.{IsFault}

by-record : (f g : Fault) → f ≡ g → f.phase ≡ g.phase
by-record f g e = ap (λ (h : Fault). h.phase) e

-- phase 1, of shapes
broken-one : (number : ℕ) (broken : Option Broken) (f : Fault) → fault_at number broken ≡ Some f → f.phase ≡ 1
broken-one number None f e = absurd (none-some f e)
broken-one number (Some broken) f e = sym (by-record (record { phase = 1; document = number; item = broken.item; code = broken.code }) f (same_Some (record { phase = 1; document = number; item = broken.item; code = broken.code }) f e))

input-one : (number : ℕ) (input : Option SchemaInput) (f : Fault) → option_and_then (λ (i : SchemaInput). shape_fault number i.tree.forest) input ≡ Some f → f.phase ≡ 1
input-one number None f e = absurd (none-some f e)
input-one number (Some input) f e = broken-one number (least_fault (constructs_of input.tree.forest)) f e

pub shape-one : (inputs : List SchemaInput) (start : ℕ) (f : Fault) → IsShapeFault inputs start f → f.phase ≡ 1
shape-one inputs start f is = input-one f.document (slice_get inputs (f.document - 1)) f is.first

-- phase 2, of composition
pub composition-two : (sources : List Available) (start : ℕ) (f : Fault) → BreaksComposition sources start f → f.phase ≡ 2
composition-two sources start f (inl is) = is.phase
composition-two sources start f (inr is) = is.phase

-- phase 3, of names
pub name-three : (t : NameTable) (origins : List Origin) (reps : List Representation) (originals : List (Option ℕ)) (f : Fault) → IsFault t origins reps originals f → f.phase ≡ 3
name-three t origins reps originals f (inl is) = by-record f _ is.4
name-three t origins reps originals f (inr (inl is)) = by-record f _ is.5
name-three t origins reps originals f (inr (inr is)) = by-record f _ is.2

-- phase 4, of circles and bases
circle-four : (t : Tables) (f : Fault) → IsCircular t f → f.phase ≡ 4
circle-four t f (inl (inl (inl is))) = by-record f _ is.4
circle-four t f (inl (inl (inr is))) = by-record f _ is.4
circle-four t f (inl (inr is)) = by-record f _ is.4
circle-four t f (inr (inl is)) = by-record f _ is.4
circle-four t f (inr (inr is)) = by-record f _ is.4

pub base-four : (t : Tables) (f : Fault) → IsBroken t f → f.phase ≡ 4
base-four t f (inl is) = circle-four t f is
base-four t f (inr is) = by-record f _ is.7
