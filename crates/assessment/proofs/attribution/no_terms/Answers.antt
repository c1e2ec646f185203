use Rattle.std.proofs.Common.{◌∙◌}
use Rattle.assessment.proofs.Walking.{none-each}
use Rattle.assessment.proofs.attribution.no_terms.Goals as goal

pub returns-clause-terms : goal.returns-clause-terms
returns-clause-terms c = c.in_ok-terms.ensures ∙ none-each c.args.children.now
