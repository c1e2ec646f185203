use Rattle.plain_session.proofs.Known.{total_now}
use Rattle.plain_session.proofs.session.PlainSessionSession.code_total.Goals as goal

pub returns : goal.returns
returns c = λ open_now. total_now c.self.inside c.args.self.now c.self.view_is c.self.invariant open_now
