use Rattle.xpath_subset.proofs.Leading.{tail_within}
use Rattle.xpath_subset.proofs.path.after_step.Goals as goal

pub returns-then-admits-clause-within : goal.returns-then-admits-clause-within
returns-then-admits-clause-within c = tail_within _ _ _ _ c.in_ok-first-in-Child.ensures.cases.0 c.requires
