use Rattle.std.proofs.Common.{drop}
use Rattle.facet_rules.specs.declared.step.ReadStep.{ReadStep}
use Rattle.facet_rules.specs.Read.{no_step}
use Rattle.facets.specs.Reading.{IsReadBehind}
use Rattle.facets.proofs.reading.read_step.Given as goal

abbrev pub invariant-loop-item : goal.invariant-loop-item
invariant-loop-item l = (last : ReadStep) → IsReadBehind l.base l.known l.step (drop l.item-index l.items) last → IsReadBehind l.base l.known no_step l.items last
