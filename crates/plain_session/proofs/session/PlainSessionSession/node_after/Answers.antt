use Rattle.std.proofs.Common.{ap, ◌∙◌}
use Rattle.session_model.specs.Asking.{number_after}
use Rattle.plain_session.proofs.Known.{entries_now, once_now}
use Rattle.plain_session.proofs.session.PlainSessionSession.node_after.Goals as goal

pub returns : goal.returns
returns c = λ open_now.
    let once = once_now c.self.inside c.args.self.now c.self.view_is c.self.invariant open_now c.each_element_is_found_once.ensures.once c.deref.result.now c.deref.ensures.value c.args.node in
    c.find_next.ensures once ∙ ap (number_after c.args.node) (entries_now c.self.inside c.args.self.now c.self.view_is c.deref.result.now c.deref.ensures.value)
