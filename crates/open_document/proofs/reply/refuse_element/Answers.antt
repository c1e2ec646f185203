use Rattle.std.proofs.Common.{sym, ap, subst}
use Rattle.open_document.specs.Replies.{no_element}
use Rattle.told.specs.Tells.{Tells}
use Rattle.open_document.proofs.reply.refuse_element.Goals as goal

pub returns-in-None : goal.returns-in-None
returns-in-None g c = record {
  tells = subst (Tells g.W.Sink.taken g.W.Sink.faults g.W.Sink.fault_bound c.args.sink.now c.write_refusal.new.sink c.write_refusal.result)
      (sym (ap no_element c.in-None.is)) c.write_refusal.ensures.tells;
}
