-- The values of the constraints of element declarations (Structures 3.3.1, 3.3.2).
use Rattle.std.specs.Prelude.{◌≡◌, ℕ, Option, None, Some, Result, Ok, Err}
use Rattle.xs_codes.specs.declared.builtin.Builtin.TheVariants.{String}
use Rattle.xs_codes.specs.declared.code.Code.{Code}
use Rattle.xs_components.specs.Tables.{Tables}
use Rattle.xs_components.specs.declared.common.TypeId.{TypeId}
use Rattle.xs_components.specs.declared.common.TypeId.TheVariants.{Builtin}
use Rattle.xs_components.specs.declared.common.ValueConstraint.{ValueConstraint}
use Rattle.component_tables.specs.ContentTypes.{content_of}
use Rattle.component_tables.specs.declared.content_types.ContentType.{ContentType}
use Rattle.component_tables.specs.declared.content_types.ContentType.TheVariants.{SimpleType, Empty, SimpleContent, ElementOnly, Mixed}
use Rattle.component_tables.specs.Types.{type_of}
use Rattle.simple_values.specs.Same.{key_value}
use Rattle.simple_values.specs.declared.key.Key.{Key}
use Rattle.simple_values.specs.declared.value.Value.{Value}
use Rattle.simple_types.specs.Trees.{type_tree}
use Rattle.simple_types.specs.SimpleTypes.{IsValueOf}

-- the type by which the text of a constraint is read: mixed content is a string
abbrev pub text_type : TypeId → ContentType → TypeId
text_type of SimpleType = of
text_type of SimpleContent = of
text_type of Empty = Builtin String
text_type of ElementOnly = Builtin String
text_type of Mixed = Builtin String

abbrev pub read_type : Tables → ℕ → TypeId
read_type t element = text_type (type_of t element) (content_of t (type_of t element))

-- a constraint of an element declaration has this value, read in the scope of the schema element that carries it
abbrev pub HasValue : Tables → ℕ → ValueConstraint → Value → Type 0
HasValue t element constraint value = IsValueOf (type_tree t (read_type t element)) constraint.scope constraint.text (Ok value)

-- the key of what a text comes to
abbrev pub outcome_key : Result Value Code → Option Key
outcome_key (Ok value) = Some (key_value value)
outcome_key (Err code) = None

-- the key of the text of a constraint, where it is valid by a type
abbrev pub IsTextKey : Tables → TypeId → ValueConstraint → Option Key → Type 0
IsTextKey t of constraint key = (outcome : Result Value Code) × IsValueOf (type_tree t of) constraint.scope constraint.text outcome × (key ≡ outcome_key outcome)
