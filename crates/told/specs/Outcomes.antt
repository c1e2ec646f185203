-- What is asked of schema documents, and what they come to.
use Rattle.std.specs.Prelude.{◌≡◌, ℕ, List}
use Rattle.xs_codes.specs.declared.fault.Fault.{Fault}
use Rattle.xs_components.specs.declared.common.Rules.{Rules}
use Rattle.xs_components.specs.declared.common.Rules.TheVariants.{V10}
use Rattle.assessment.specs.Attribution.{SchemaSet}
use Rattle.compiled_schema.specs.Usable.{set_of}
use Rattle.schema_compile.specs.Outcomes.{IsOutcome}
use Rattle.schema_set.specs.declared.inputs.SchemaInput.{SchemaInput}
use Rattle.schema_compile.specs.declared.outcome.Outcome.{Outcome}
use Rattle.schema_compile.specs.declared.outcome.Outcome.TheVariants as outcomes

-- schema documents, the place in them of the one that the set starts at, and the rules that the set is read by
pub record Question : Type 0 where
  pub documents : List SchemaInput
  pub start : ℕ
  pub rules : Rules

-- a set that documents are assessed by, or the first constraint that is broken
pub data SetOutcome : Type 0 where
  accepted : (set : SchemaSet) → SetOutcome
  broken : (fault : Fault) → SetOutcome

-- what is told of an outcome: of a set that is accepted, what it is as a schema set
abbrev pub told_of : Outcome → SetOutcome
told_of (outcomes.Accepted set) = accepted (set_of set)
told_of (outcomes.Broken fault) = broken fault

-- The documents come to this. So far a set is read by the rules of XML Schema 1.0.
pub record IsOutcomeOf (question : Question) (o : SetOutcome) : Type 0 where
  pub rules_are : question.rules ≡ V10
  pub outcome : Outcome
  pub is_outcome : IsOutcome question.documents question.start outcome
  pub told_is : o ≡ told_of outcome
