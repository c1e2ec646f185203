use Rattle.std.proofs.Common.{ap, ◌∙◌}
use Rattle.session_model.specs.Asking as asking
use Rattle.plain_session.proofs.Known.{entries_now}
use Rattle.plain_session.proofs.session.PlainSessionSession.root_validity.Goals as goal

pub returns : goal.returns
returns c = λ open_now.
    c.root_validity.ensures ∙ ap asking.root_validity (entries_now c.self.inside c.args.self.now c.self.view_is c.deref.result.now c.deref.ensures.value)
