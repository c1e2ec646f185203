use Rattle.plain_session.proofs.Known.{set_now, found_now}
use Rattle.plain_session.proofs.session.PlainSessionSession.compiled.Goals as goal

pub returns-clause-set : goal.returns-clause-set
returns-clause-set c = λ open_now. set_now c.self.inside c.args.self.now c.self.view_is c.deref.result.now c.deref.ensures

pub returns-clause-found : goal.returns-clause-found
returns-clause-found c = λ open_now. found_now c.self.inside c.args.self.now c.self.view_is c.self.invariant open_now
