use Rattle.std.proofs.Common.{length}
use Rattle.component_references.proofs.search.Search.meet.Given as goal

abbrev pub decreases-back : goal.decreases-back
decreases-back l = length l.self.firsts.items
