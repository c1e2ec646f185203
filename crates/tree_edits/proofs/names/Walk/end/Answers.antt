use Rattle.tree_edits.proofs.Scoping.{joined_none}
use Rattle.tree_edits.proofs.names.Walk.end.Goals as goal

pub returns-clause-names : goal.returns-clause-names
returns-clause-names c = joined_none c.args.self.now.names
