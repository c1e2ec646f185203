use Rattle.std.proofs.Common.{sym}
use Rattle.edit_session.proofs.Known.{root-held, root-there-held}
use Rattle.edit_session.proofs.session.EditSessionSession.root_validity.Goals as goal

pub returns-in-None : goal.returns-in-None
returns-in-None c = λ open_now. absurd (root-there-held c.self.inside c.args.self.now c.self.view_is c.self.invariant open_now (sym c.in-None.ensures))

pub returns-in-Some : goal.returns-in-Some
returns-in-Some c = λ open_now. root-held c.self.inside c.args.self.now c.self.view_is c.self.invariant open_now c.in-Some.root.now (sym c.in-Some.ensures)
