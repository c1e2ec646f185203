use Rattle.xpath_subset.proofs.Once.{paths-once}
use Rattle.xpath_subset.proofs.paths.paths_go_by_the_constraint.Goals as goal

pub returns : goal.returns
returns c = record { one = paths-once }
