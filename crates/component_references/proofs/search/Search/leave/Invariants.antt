use Rattle.std.proofs.Common.{length}
use Rattle.component_references.proofs.search.Search.leave.Given as goal

abbrev pub decreases-set : goal.decreases-set
decreases-set l = length l.self.path.items
