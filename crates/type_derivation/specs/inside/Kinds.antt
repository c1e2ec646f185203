-- A table of the content types that are known.
use Rattle.std.specs.Prelude.{◌≡◌, ℕ, Bool, true, false, List, Option, None, Some, slice_get, slice_index_or, sum_by}
use Rattle.std.specs.Option.{option_map}
use Rattle.xs_codes.specs.declared.code.Code.{Code}
use Rattle.xs_codes.specs.declared.fault.Fault.{Fault}
use Rattle.xs_components.specs.Tables.{Tables}
use Rattle.xs_components.specs.declared.common.Place.{Place}
use Rattle.xs_components.specs.declared.common.TypeId.{TypeId}
use Rattle.xs_components.specs.declared.common.TypeId.TheVariants.{AnyType, Builtin, Simple, Complex}
use Rattle.xs_components.specs.declared.complex.ComplexType.{ComplexType}
use Rattle.xs_components.specs.declared.complex.ContentForm.{ContentForm}
use Rattle.xs_components.specs.declared.complex.ContentForm.TheVariants as forms
use Rattle.component_tables.specs.ContentTypes.{form_content}
use Rattle.component_tables.specs.declared.content_types.ContentType.{ContentType}
use Rattle.component_tables.specs.declared.content_types.ContentType.TheVariants.{SimpleType, Empty, Mixed}
use Rattle.type_derivation.specs.Bases.{base_fault, base_code}
use Rattle.type_derivation.specs.Contents.{HasContent}

abbrev pub entry : List (Option ContentType) → ℕ → Option ContentType
entry table n = slice_index_or table n None

-- the content type of a type, as far as the table has it
abbrev pub kind_in : List (Option ContentType) → TypeId → Option ContentType
kind_in table AnyType = Some Mixed
kind_in table (Builtin kind) = Some SimpleType
kind_in table (Simple id) = Some SimpleType
kind_in table (Complex id) = entry table id

-- an extension without effective content goes by its base
abbrev pub goes_by_base : Bool → ContentForm → Bool
goes_by_base by_extension (forms.Simple own step) = false
goes_by_base by_extension (forms.Complex (Some particle) mixed) = false
goes_by_base by_extension (forms.Complex None mixed) = by_extension

abbrev pub kind_over : Bool → ComplexType → Option ContentType → Option ContentType
kind_over true part base = option_map (form_content part.by_extension part.content) base
kind_over false part base = Some (form_content part.by_extension part.content Empty)

-- the content type of a complex type, as far as it is told by the form and the table
abbrev pub next_kind : List (Option ContentType) → ComplexType → Option ContentType
next_kind table part = kind_over (goes_by_base part.by_extension part.content) part (kind_in table part.base)

-- what the table has is so
abbrev pub IsSound : Tables → List (Option ContentType) → Type 0
IsSound t table = (n : ℕ) (kind : ContentType) → entry table n ≡ Some kind → HasContent t (Complex n) kind

-- what the table lacks is not told by it
abbrev pub LacksAt : Tables → List (Option ContentType) → ℕ → Type 0
LacksAt t table n = (part : ComplexType) → slice_get t.complexes.parts n ≡ Some part → entry table n ≡ None → next_kind table part ≡ None

abbrev pub one_if_none : Option ContentType → ℕ
one_if_none None = 1
one_if_none (Some kind) = 0

-- how many are not known
abbrev pub unknown : List (Option ContentType) → ℕ
unknown table = sum_by one_if_none table

abbrev pub fault_of_code : Place → Option Code → Option Fault
fault_of_code at None = None
fault_of_code at (Some code) = Some (base_fault at code)

abbrev pub fault_of_kind : ComplexType → Option ContentType → Option Fault
fault_of_kind part None = None
fault_of_kind part (Some kind) = fault_of_code part.at (base_code part.by_extension part.content kind)

-- the fault of a type, by the kind of its base in the table
abbrev pub fault_in : List (Option ContentType) → ComplexType → Option Fault
fault_in table part = fault_of_kind part (kind_in table part.base)

-- a fault of one of these types
abbrev pub IsFaultIn : List ComplexType → List (Option ContentType) → Fault → Type 0
IsFaultIn types table fault = (n : ℕ) × (part : ComplexType) × (slice_get types n ≡ Some part) × (fault_in table part ≡ Some fault)
