use Rattle.std.proofs.Common.{sym, subst}
use Rattle.tree_rows.specs.Forest.{Document}
use Rattle.doc_changes.specs.Stands.{StandsFor}
use Rattle.arena_tests.proofs.calls.plain_of.Goals as goal

pub returns-in-Ok : goal.returns-in-Ok
returns-in-Ok c = let q = c.requires in subst (λ (d : Document). StandsFor c.args.names.now c.args.doc.now d) (sym (c.in-Ok.ensures.tree q.0 q.1)) q.1
