-- The facets of a simple type, and what a step of restriction makes of them: Structures 3.14.6, Datatypes 4.3.
use Rattle.std.specs.Prelude.{◌≡◌, List, Option, None, Some, Result, Ok, Err}
use Rattle.xs_codes.specs.declared.fault.Fault.{Fault}
use Rattle.xs_components.specs.declared.simple.FacetItem.{FacetItem}
use Rattle.facet_checks.specs.declared.list.FacetList.{FacetList}
use Rattle.facet_rules.specs.declared.step.ReadStep.{ReadStep}
use Rattle.facet_checks.specs.List.{no_facets}
use Rattle.facet_rules.specs.Rules.{outcome_of, judged_of}
use Rattle.facets.specs.declared.facets.Facets.{Facets}
use Rattle.facets.specs.declared.known.Judged.{Judged}
use Rattle.facets.specs.declared.known.Known.{Known}
use Rattle.facets.specs.declared.known.Known.TheVariants as knowns
use Rattle.facets.specs.Reading.{IsStepRead, IsStepReadBy}
pub use Rattle.facets.specs.Source.{of_builtin, list_of, union_of, family, builtin, IsSourceRead, IsRead}

-- the facets behind the step keep the built-in type
abbrev pub with_list : Facets → Result FacetList Fault → Result Facets Fault
with_list base (Ok facets) = Ok (record base { list = facets })
with_list base (Err fault) = Err fault

-- the step is read, and then its first fault counts, or what is in force behind it
abbrev pub IsRestricted : Facets → List FacetItem → Result Facets Fault → Type 0
IsRestricted base items outcome = (step : ReadStep) × IsStepRead base items step × (outcome ≡ with_list base (outcome_of base.list step))

abbrev pub facets_by : Facets → Option FacetList → Option Facets
facets_by base None = None
facets_by base (Some facets) = Some (record base { list = facets })

abbrev pub judged_whole : Facets → ReadStep → Judged
judged_whole base step = record {
  fault = (judged_of base.list step).fault;
  facets = facets_by base (judged_of base.list step).list;
}

-- a rule that reads what another fault leaves undefined is not broken: of a base whose facets are undefined no facet is read,
-- and what is made from them is undefined
abbrev pub judged_by : Facets → Known → ReadStep → Judged
judged_by base knowns.Neither step = record { fault = (judged_of no_facets step).fault; facets = None }
judged_by base _ step = judged_whole base step

-- the step is read by what is defined of its base, and then judged
abbrev pub IsStepJudged : Facets → Known → List FacetItem → Judged → Type 0
IsStepJudged base known items judged = (step : ReadStep) × IsStepReadBy base known items step × (judged ≡ judged_by base known step)
