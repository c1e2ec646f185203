use Rattle.std.proofs.Common.{sym, ap, subst}
use Rattle.told.specs.Tells.{Tells}
use Rattle.open_document.specs.Replies.{turn_refusal}
use Rattle.open_document.proofs.turning.refuse_turn.Goals as goal

pub returns-in-Stale : goal.returns-in-Stale
returns-in-Stale g c = record {
  tells = subst (Tells g.W.Sink.taken g.W.Sink.faults g.W.Sink.fault_bound c.args.sink.now c.write_answer.new.sink c.write_answer.result)
      (sym (ap turn_refusal c.in-Stale.is)) c.write_answer.ensures.tells;
}
