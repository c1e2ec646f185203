use Rattle.edit_session.proofs.Known.{set-now, found-is}
use Rattle.edit_session.proofs.session.EditSessionSession.compiled.Goals as goal

pub returns-clause-set : goal.returns-clause-set
returns-clause-set c = λ open_now. set-now c.self.inside c.args.self.now c.self.view_is c.self.invariant c.deref.result.now c.deref.ensures

pub returns-clause-found : goal.returns-clause-found
returns-clause-found c = λ open_now. found-is c.self.inside c.args.self.now c.self.view_is c.self.invariant open_now
