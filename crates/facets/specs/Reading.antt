-- Reading the facets of a step of restriction: Datatypes 4.3, Structures 3.14.2.
use Rattle.std.specs.Prelude.{◌≡◌, Bool, true, false, List, [], ◌∷◌, Result, Ok, Err}
use Rattle.xs_codes.specs.declared.code.Code.{Code}
use Rattle.xs_codes.specs.declared.code.Code.TheVariants.{XLimitValue, EnumerationValidRestriction}
use Rattle.xs_components.specs.declared.simple.FacetItem.{FacetItem}
use Rattle.xs_components.specs.declared.simple.FacetKind.{FacetKind}
use Rattle.xs_components.specs.declared.simple.FacetKind.TheVariants as kinds
use Rattle.facet_rules.specs.declared.step.Reading.TheVariants as readings
use Rattle.facet_rules.specs.declared.step.ReadStep.{ReadStep}
use Rattle.facet_rules.specs.declared.read.FacetRead.{FacetRead}
use Rattle.facet_rules.specs.declared.read.FacetRead.TheVariants as reads
use Rattle.facet_rules.specs.Applicable.{fits}
use Rattle.facet_rules.specs.Read.{with_read, no_step}
use Rattle.facet_rules.specs.Texts.{IsTextRead}
use Rattle.facets.specs.declared.atomic.Accepted.{Accepted}
use Rattle.facets.specs.declared.facets.Facets.{Facets}
use Rattle.facets.specs.declared.known.Known.{Known}
use Rattle.facets.specs.declared.known.Known.TheVariants.{Whole}
use Rattle.facets.specs.Source.{family, builtin, IsRead}

-- enumeration-valid-restriction (Datatypes 4.3.5.5): the base does not accept the value; its limit on values keeps its code
abbrev pub value_code : Code → Code
value_code XLimitValue = XLimitValue
value_code _ = EnumerationValidRestriction

abbrev pub value_read : Result Accepted Code → FacetRead
value_read (Ok accepted) = reads.Value accepted.value
value_read (Err code) = reads.Plain (readings.Refused (value_code code))

abbrev pub IsValueRead : Facets → FacetItem → FacetRead → Type 0
IsValueRead base item read = (outcome : Result Accepted Code) × IsRead base item.scope item.text outcome × (read ≡ value_read outcome)

-- the facet is a value of an enumeration, and which literals the base has is defined
abbrev pub is_read_by_base : Known → FacetKind → Bool
is_read_by_base Whole kinds.Enumeration = true
is_read_by_base _ _ = false

abbrev pub IsFitReadIf : Bool → Facets → FacetItem → FacetRead → Type 0
IsFitReadIf true base item read = IsValueRead base item read
IsFitReadIf false base item read = IsTextRead item.kind (builtin base) item read

abbrev pub IsReadIf : Bool → Facets → Known → FacetItem → FacetRead → Type 0
IsReadIf true base known item read = IsFitReadIf (is_read_by_base known item.kind) base item read
IsReadIf false base known item read = read ≡ reads.Plain readings.Unfit

-- what a facet is read to, where the base is restricted by it
abbrev pub IsFacetRead : Facets → Known → FacetItem → FacetRead → Type 0
IsFacetRead base known item read = IsReadIf (fits (family base) item.kind) base known item read

-- what is read in front, and then these facets
abbrev pub IsReadBehind : Facets → Known → ReadStep → List FacetItem → ReadStep → Type 0
IsReadBehind base known front [] step = step ≡ front
IsReadBehind base known front (item ∷ items) step =
    (read : FacetRead) × IsFacetRead base known item read × IsReadBehind base known (with_read front item read) items step

-- the facets of a step, read in order, by what is defined of the base
abbrev pub IsStepReadBy : Facets → Known → List FacetItem → ReadStep → Type 0
IsStepReadBy base known items step = IsReadBehind base known no_step items step

abbrev pub IsStepRead : Facets → List FacetItem → ReadStep → Type 0
IsStepRead base items step = IsStepReadBy base Whole items step
