use Rattle.std.proofs.Common.{◌∙◌}
use Rattle.edit_session.proofs.Known.{total-held}
use Rattle.edit_session.proofs.session.EditSessionSession.code_total.Goals as goal

pub returns : goal.returns
returns c = λ open_now. c.total.ensures ∙ total-held c.self.inside c.args.self.now c.self.view_is c.self.invariant open_now
