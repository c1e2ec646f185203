-- What a step of restriction makes of the facets in force for its base: Structures 3.14.6, Datatypes 4.3.
use Rattle.std.specs.Prelude.{if◌then◌else◌, List, ◌++◌, Option, None, Some, Result, Ok, Err}
use Rattle.xs_codes.specs.declared.fault.Fault.{Fault}
use Rattle.facet_checks.specs.declared.list.FacetList.{FacetList}
use Rattle.facet_rules.specs.declared.merge.Judged.{Judged}
use Rattle.facet_rules.specs.declared.step.ReadFacet.{ReadFacet}
use Rattle.facet_rules.specs.declared.step.ReadStep.{ReadStep}
use Rattle.facet_rules.specs.First.{Rule, first_fault}
use Rattle.facet_rules.specs.Defects.{defect_rules, are_defined}
use Rattle.facet_rules.specs.CountRules.{count_rules}
use Rattle.facet_rules.specs.BoundRules.{bound_rules}
use Rattle.facet_rules.specs.Merge.{merged}

-- the rules of a step, in no order that counts
abbrev pub step_rules : FacetList → List ReadFacet → List Rule
step_rules base facets = defect_rules facets 0 facets ++ (count_rules base facets ++ bound_rules base facets)

abbrev pub outcome_by : Option Fault → FacetList → Result FacetList Fault
outcome_by (Some fault) made = Err fault
outcome_by None made = Ok made

-- the first fault of the step, or else what is in force behind it
abbrev pub outcome_of : FacetList → ReadStep → Result FacetList Fault
outcome_of base step = outcome_by (first_fault (step_rules base step.facets)) (merged base step)

-- the first fault of the step, and what is in force behind it, where no facet of it leaves that undefined
abbrev pub judged_of : FacetList → ReadStep → Judged
judged_of base step = record {
  fault = first_fault (step_rules base step.facets);
  list = if are_defined step.facets 0 step.facets then Some (merged base step) else None;
}
