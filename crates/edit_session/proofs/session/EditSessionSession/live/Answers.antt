use Rattle.edit_session.proofs.Known.{live-now}
use Rattle.edit_session.proofs.session.EditSessionSession.live.Goals as goal

pub returns : goal.returns
returns c = live-now c.self.inside c.args.self.now c.self.view_is c.self.invariant c.args.node c.live.result (c.live.ensures.tree c.self.inside.set.value.names)
