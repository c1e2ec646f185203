-- The facets of a step, read one after another: Structures 3.14.2.
use Rattle.std.specs.Prelude.{ℕ, List, [], ◌∷◌, ◌++◌}
use Rattle.xs_components.specs.declared.simple.FacetItem.{FacetItem}
use Rattle.simple_values.specs.declared.value.Value.{Value}
use Rattle.facet_rules.specs.declared.step.Reading.{Reading}
use Rattle.facet_rules.specs.declared.step.Reading.TheVariants as readings
use Rattle.facet_rules.specs.declared.step.ReadStep.{ReadStep}
use Rattle.facet_rules.specs.declared.read.FacetRead.{FacetRead}
use Rattle.facet_rules.specs.declared.read.FacetRead.TheVariants as reads

abbrev pub reading_of : FacetRead → Reading
reading_of (reads.Plain reading) = reading
reading_of (reads.Pattern pattern) = readings.Listed
reading_of (reads.Value value) = readings.Listed

abbrev pub pattern_of : FacetRead → List (List ℕ)
pattern_of (reads.Pattern pattern) = pattern ∷ []
pattern_of _ = []

abbrev pub value_in : FacetRead → List Value
value_in (reads.Value value) = value ∷ []
value_in _ = []

-- the step with a facet more
abbrev pub with_read : ReadStep → FacetItem → FacetRead → ReadStep
with_read step item read = record {
  facets = step.facets ++ record { kind = item.kind; fixed = item.fixed; at = item.at; reading = reading_of read } ∷ [];
  patterns = step.patterns ++ pattern_of read;
  values = step.values ++ value_in read;
}

abbrev pub no_step : ReadStep
no_step = record { facets = []; patterns = []; values = [] }
