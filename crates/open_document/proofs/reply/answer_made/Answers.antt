use Rattle.std.proofs.Common.{ap, ◌∙◌, subst}
use Rattle.told.specs.Tells.{Wrote}
use Rattle.open_document.specs.Replies.{made}
use Rattle.open_document.proofs.reply.answer_made.Goals as goal

pub returns-clause-wrote : goal.returns-clause-wrote
returns-clause-wrote g c =
    let s = g.S.Session.state c.args.session.now in
    subst (Wrote c.write_made.result (g.W.Sink.taken c.args.sink.now) (g.W.Sink.taken c.write_made.new.sink))
    (ap (λ r. made r c.code_total.result) c.revision.ensures ∙ ap (made s.revision) (c.code_total.ensures c.requires)) c.write_made.ensures.tells.wrote
