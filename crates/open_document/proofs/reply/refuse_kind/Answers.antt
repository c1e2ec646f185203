use Rattle.std.proofs.Common.{Some, sym, ap, subst}
use Rattle.tree_rows.specs.declared.row.NodeKind.{NodeKind}
use Rattle.open_document.specs.Replies.{no_element}
use Rattle.told.specs.Tells.{Tells}
use Rattle.open_document.proofs.reply.refuse_kind.Goals as goal

pub returns-in-Chars : goal.returns-in-Chars
returns-in-Chars g c = record {
  tells = subst (Tells g.W.Sink.taken g.W.Sink.faults g.W.Sink.fault_bound c.args.sink.now c.write_refusal.new.sink c.write_refusal.result)
      (sym (ap (λ (k : NodeKind). no_element (Some k)) c.in-Chars.is)) c.write_refusal.ensures.tells;
}

pub returns-in-Element : goal.returns-in-Element
returns-in-Element g c = record {
  tells = subst (Tells g.W.Sink.taken g.W.Sink.faults g.W.Sink.fault_bound c.args.sink.now c.write_refusal-in-Element.new.sink c.write_refusal-in-Element.result)
      (sym (ap (λ (k : NodeKind). no_element (Some k)) c.in-Element.is)) c.write_refusal-in-Element.ensures.tells;
}
