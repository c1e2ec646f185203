-- The assessment of a document with the codes of its identity constraints and of its IDs: Structures 3.3.4, 3.3.5, 3.11.4, 5.2.
use Rattle.std.specs.Prelude.{ℕ, ◌||◌, Bool, false, if◌then◌else◌, List, [], ◌∷◌, ◌++◌, Option}
use Rattle.xs_codes.specs.declared.fault.Found.{Found}
use Rattle.simple_values.specs.declared.value.Value.{Value}
use Rattle.tree_rows.specs.Forest.{Forest}
use Rattle.identity_tables.specs.Ids.{id_codes}
use Rattle.assess_records.specs.declared.outcome.Validity.{Validity}
use Rattle.assess_records.specs.declared.outcome.Validity.TheVariants.{Valid, Invalid, NotKnown}
use Rattle.assess_records.specs.declared.record.AttrRecord.{AttrRecord}
use Rattle.assess_records.specs.declared.record.ElementRecord.{ElementRecord}
use Rattle.elem_codes.specs.Records.{is_invalid}
use Rattle.assessment.specs.Attribution.{SchemaSet}
use Rattle.assessment.specs.Assessment.{Entry, Assessed, nothing, entry, Beside}
use Rattle.assessment.specs.Bearings.{borne_values}
use Rattle.assessment.specs.Joined.{is_root}
use Rattle.xpath_subset.specs.declared.paths.IdentityPaths.{IdentityPaths}
use Rattle.identity_constraints.specs.Seen.{KeyAttribute, KeyElement, KeyForest, none, element}
use Rattle.identity_constraints.specs.Satisfied.{identity_at}

-- ---- what identity constraints see of what was found

abbrev pub seen_attributes : List AttrRecord → List (Option Value) → List KeyAttribute
seen_attributes [] values = []
seen_attributes (attr ∷ attrs) [] = []
seen_attributes (attr ∷ attrs) (value ∷ values) = record { name = attr.name; value = value } ∷ seen_attributes attrs values

abbrev pub seen_element : Entry → KeyElement
seen_element own = record {
  number = own.number;
  name = own.element.name;
  declaration = own.governing.declaration;
  of = own.governing.of;
  value = own.value;
  attributes = seen_attributes own.attrs own.attr_values;
}

abbrev pub seen : Assessed → KeyForest
seen nothing = none
seen (entry own below next) = element (seen_element own) (seen below) (seen next)

-- ---- what is said beside, by what was found

-- cvc-identity-constraint.3 to .4.3 (Structures 3.11.4) at each element; cvc-id.1 and cvc-id.2 (3.3.4) at the root
abbrev pub beside_of : SchemaSet → List IdentityPaths → Forest → Assessed → Beside
beside_of s identities f found = record {
  identity = λ number. identity_at s.names s.parts identities number (seen found);
  ids = λ number. if is_root f number then id_codes (borne_values found) else [];
}

-- ---- codes behind the others of elements

-- Structures 3.3.5: an element with a code is invalid, and so is one with an invalid child element where it is strictly assessed; one
-- that is not strictly assessed and has no code stays not known
abbrev pub validity_again : List Found → Bool → Validity → Validity
validity_again (code ∷ codes) below validity = Invalid
validity_again [] below NotKnown = NotKnown
validity_again [] below Invalid = Invalid
validity_again [] below Valid = if below then Invalid else Valid

abbrev pub with_more : List Found → Bool → ElementRecord → ElementRecord
with_more codes below r = record r { validity = validity_again codes below r.validity; codes = r.codes ++ codes }

-- one of the siblings is invalid
abbrev pub has_invalid : Assessed → Bool
has_invalid nothing = false
has_invalid (entry own below next) = is_invalid own.element.validity || has_invalid next

-- what was found, with these codes by the numbers of elements, from the leaves upwards
abbrev pub with_all : (ℕ → List Found) → Assessed → Assessed
with_all codes nothing = nothing
with_all codes (entry own below next) =
    entry (record own { element = with_more (codes own.number) (has_invalid (with_all codes below)) own.element }) (with_all codes below) (with_all codes next)

abbrev pub said : Beside → ℕ → List Found
said b number = b.identity number ++ b.ids number

-- with the codes that are said beside of it
abbrev pub with_codes : SchemaSet → List IdentityPaths → Forest → Assessed → Assessed
with_codes s identities f found = with_all (said (beside_of s identities f found)) found
