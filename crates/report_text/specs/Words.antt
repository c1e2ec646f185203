-- The words and texts of record lines.
use Rattle.std.specs.Prelude.{◌≡◌, ℕ, Bool, List, [], ◌∷◌, ◌++◌, ◌==◌, Option, None, Some, slice_get, slice_index_or, if◌then◌else◌, codes, refl}
use Rattle.std.specs.List.{before_first}
use Rattle.std.specs.Fmt.{decimal}
use Rattle.xsv_io.specs.Escaping.{escaped}
use Rattle.xs_names.specs.Names.{NameTable, absent_space, space_of, local_of}
use Rattle.xs_codes.specs.Codes.{text_of}
use Rattle.xs_codes.specs.declared.code.Code.{Code}
use Rattle.xs_codes.specs.declared.code.Code.TheVariants.{CvcComplexType2_4}
use Rattle.xs_codes.specs.declared.fault.Found.{Found}
use Rattle.xs_components.specs.Tables.{Tables}
use Rattle.xs_components.specs.declared.common.Place.{Place}
use Rattle.xs_components.specs.declared.common.TypeId.{TypeId}
use Rattle.xs_components.specs.declared.common.TypeId.TheVariants.{AnyType, Builtin, Simple, Complex}
use Rattle.xs_components.specs.declared.complex.ComplexType.{ComplexType}
use Rattle.xs_components.specs.declared.simple.SimpleType.{SimpleType}
use Rattle.simple_values.specs.Builtins.{name_of}
use Rattle.assess_records.specs.declared.outcome.Validity.{Validity}
use Rattle.assess_records.specs.declared.outcome.Validity.TheVariants.{Valid, Invalid, NotKnown}
use Rattle.assess_records.specs.declared.outcome.Attempted.{Attempted}
use Rattle.assess_records.specs.declared.outcome.Attempted.TheVariants.{Full, Partial, Untried}
use Rattle.assess_records.specs.declared.outcome.ValueSource.{ValueSource}
use Rattle.assess_records.specs.declared.outcome.ValueSource.TheVariants.{Given, Schema}

abbrev pub validity_word : Validity → List ℕ
validity_word Valid = codes "valid"
validity_word Invalid = codes "invalid"
validity_word NotKnown = codes "notKnown"

abbrev pub attempted_word : Attempted → List ℕ
attempted_word Full = codes "full"
attempted_word Partial = codes "partial"
attempted_word Untried = codes "none"

abbrev pub source_word : ValueSource → List ℕ
source_word Given = codes "given"
source_word Schema = codes "schema"

-- cvc-complex-type.2.4: the place among the child elements where they get stuck stands behind the code, and behind no other
abbrev pub place_text : Code → ℕ → List ℕ
place_text CvcComplexType2_4 place = codes "@" ++ decimal place
place_text _ place = []

abbrev pub code_text : Found → List ℕ
code_text found = text_of found.code ++ place_text found.code found.place

abbrev pub more_codes : List Found → List ℕ
more_codes [] = []
more_codes (found ∷ more) = codes "," ++ code_text found ++ more_codes more

-- codes are joined by commas; a hyphen stands for none
abbrev pub codes_text : List Found → List ℕ
codes_text [] = codes "-"
codes_text (found ∷ more) = code_text found ++ more_codes more

-- an anonymous type goes by the place where it is represented: the number of the document, and its own number there
abbrev pub place_name : Place → List ℕ
place_name at = codes "#" ++ decimal at.document ++ codes "." ++ decimal at.item

abbrev pub is_space : ℕ → Bool
is_space b = b == 32

-- The local part of the name of a type as it is printed: what stands before the first space. An original that a redefined type goes
-- back to (Structures 4.2.2) has a name of its own in a schema set, the local part with a space and a number behind it, and is printed
-- by the name that documents give it. No other name has a space (Namespaces in XML 1.0, production 4).
abbrev pub printed_local : List ℕ → List ℕ
printed_local local = before_first is_space local

-- for example
pub example-original : printed_local (codes "size 12") ≡ codes "size"
example-original = refl

pub example-other : printed_local (codes "size") ≡ codes "size"
example-other = refl

module _ (names : NameTable) where
  -- the namespace of a name in braces; nothing for the absent one
  abbrev pub space_text : ℕ → List ℕ
  space_text space = if space == absent_space then [] else codes "{" ++ escaped (slice_index_or names.spaces space []) ++ codes "}"

  -- an expanded name (Namespaces in XML 1.0, 2.1) as one text, with escapes
  abbrev pub name_text : ℕ → List ℕ
  name_text name = space_text (space_of names name) ++ escaped (local_of names name)

  -- the expanded name of a type, so
  abbrev pub type_name_text : ℕ → List ℕ
  type_name_text name = space_text (space_of names name) ++ escaped (printed_local (local_of names name))

  -- a type that is defined in a schema document
  abbrev pub defined_text : Option ℕ → Place → List ℕ
  defined_text None at = place_name at
  defined_text (Some name) at = type_name_text name

  abbrev pub simple_text : Option SimpleType → List ℕ
  simple_text None = codes "-"
  simple_text (Some part) = defined_text part.name part.at

  abbrev pub complex_text : Option ComplexType → List ℕ
  complex_text None = codes "-"
  complex_text (Some part) = defined_text part.name part.at

  -- a type; a hyphen stands for none
  abbrev pub type_text : Tables → Option TypeId → List ℕ
  type_text t None = codes "-"
  type_text t (Some AnyType) = codes "xs:anyType"
  type_text t (Some (Builtin kind)) = codes "xs:" ++ name_of kind
  type_text t (Some (Simple id)) = simple_text (slice_get t.simples.parts id)
  type_text t (Some (Complex id)) = complex_text (slice_get t.complexes.parts id)
