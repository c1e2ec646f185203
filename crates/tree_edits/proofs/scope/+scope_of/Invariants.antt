use Rattle.std.proofs.Common.{length}
use Rattle.tree_edits.proofs.scope.+scope_of.Given as goal

abbrev pub decreases-scope_of : goal.decreases-scope_of
decreases-scope_of l = length l.rows.now
