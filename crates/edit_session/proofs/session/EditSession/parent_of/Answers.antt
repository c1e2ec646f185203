use Rattle.edit_session.proofs.Known.{parent-now}
use Rattle.edit_session.proofs.session.EditSession.parent_of.Goals as goal

pub returns : goal.returns
returns c = parent-now c.self.inside c.args.self.now c.self.view_is c.self.invariant c.args.node c.parent.result (c.parent.ensures.tree c.self.inside.set.value.names)
