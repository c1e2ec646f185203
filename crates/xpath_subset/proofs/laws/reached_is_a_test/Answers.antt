use Rattle.xpath_subset.proofs.Reaching.{reached-to, reached-from}
use Rattle.xpath_subset.proofs.laws.reached_is_a_test.Goals as goal

pub returns : goal.returns
returns c = record { reached = λ paths elements attribute. (reached-to paths elements attribute, reached-from paths elements attribute) }
