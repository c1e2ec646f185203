-- A document with a target namespace is numbered by its own place and that of the namespace.
use Rattle.std.specs.Prelude.{ℕ, ◌+◌, ◌-◌, ◌*◌, ◌/◌, ◌%◌, List, [], Option, Some, None, Contains, length, slice_get, filter_map}
use Rattle.std.specs.Option.{option_map, option_and_then}
use Rattle.schema_shape.specs.declared.forms.Form.{Form}
use Rattle.schema_shape.specs.declared.forms.Form.TheVariants as forms
use Rattle.schema_shape.specs.declared.forms.Shape.{Shape}
use Rattle.schema_set.specs.EffectiveSet.{document_at}
use Rattle.schema_set.specs.declared.documents.Available.{Available}
use Rattle.schema_set.specs.Order.{own_target_of, target_place}

abbrev pub shapes_of : Option Available → List Shape
shapes_of None = []
shapes_of (Some a) = a.shaped.shapes

abbrev pub shapes_at : List Available → ℕ → List Shape
shapes_at available place = shapes_of (slice_get available place)

-- the document of this number with the target namespace of this place, and with its own
abbrev pub with_place : List Available → ℕ → ℕ → ℕ
with_place available place number = (number - 1) * length available + place

abbrev pub with_own : List Available → ℕ → ℕ
with_own available number = with_place available (target_place available (own_target_of available number)) number

abbrev pub next_included : List Available → ℕ → List ℕ → Option ℕ
next_included available place location = option_map (with_place available place) (document_at available location)

abbrev pub next_imported : List Available → List ℕ → Option ℕ
next_imported available location = option_map (with_own available) (document_at available location)

-- what an element leads to, in a document with the target namespace of this place
abbrev pub next_of : List Available → ℕ → Form → Option ℕ
next_of available place (forms.Include location) = next_included available place location
next_of available place (forms.Redefine location) = next_included available place location
next_of available place (forms.Import namespace location) = option_and_then (next_imported available) location
next_of available place _ = None

abbrev pub following : List Available → ℕ → List ℕ
following available x = filter_map (λ shape. next_of available (x % length available) shape.form) (shapes_at available (x / length available))

-- the document of this place leads there, with its own target namespace
pub data Reaches (available : List Available) (start : ℕ) : ℕ → Type 0 where
  begins : Reaches available start (with_own available (start + 1))
  further : (x y : ℕ) → Reaches available start x → Contains (following available x) y → Reaches available start y
