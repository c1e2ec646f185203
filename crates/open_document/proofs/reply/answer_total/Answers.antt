use Rattle.std.proofs.Common.{ap, subst}
use Rattle.told.specs.Tells.{Wrote}
use Rattle.open_document.specs.Replies.{total_line}
use Rattle.open_document.proofs.reply.answer_total.Goals as goal

pub returns-clause-wrote : goal.returns-clause-wrote
returns-clause-wrote g c =
    subst (Wrote c.tell_total.result (g.W.Sink.taken c.args.sink.now) (g.W.Sink.taken c.tell_total.new.sink)) (ap total_line (c.code_total.ensures c.requires)) c.tell_total.ensures.tells.wrote
