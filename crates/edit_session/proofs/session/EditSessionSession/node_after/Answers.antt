use Rattle.std.proofs.Common.{sym, ◌∙◌}
use Rattle.edit_session.proofs.Known.{after-held, none-held, live-next}
use Rattle.edit_session.proofs.session.EditSessionSession.node_after.Goals as goal

pub returns-in-None : goal.returns-in-None
returns-in-None c = λ open_now. none-held c.self.inside c.args.self.now c.self.view_is c.self.invariant open_now c.args.node (sym c.in-None.ensures)

pub returns-in-Some : goal.returns-in-Some
returns-in-Some c = λ open_now.
    live-next c.self.inside c.args.self.now c.self.view_is c.self.invariant c.args.node c.next_element.result c.next_element.ensures.tree
    ∙ after-held c.self.inside c.args.self.now c.self.view_is c.self.invariant open_now c.args.node (c.in-Some.field-0.now, sym c.in-Some.ensures)
