use Rattle.std.proofs.Common.{◌+◌, ◌∙◌, ap, length}
use Rattle.std.proofs.lemmas.List.{length_push}
use Rattle.content_automaton.proofs.Ending.{ends_more}
use Rattle.content_automaton.proofs.ends.ends_of.Goals as goal

pub loop-number-preserved : goal.loop-number-preserved
loop-number-preserved c = record {
  ends = ends_more (λ set. set.items) c.args.form.now.table c.args.states.now c.loop-number.ends.items _ c.loop-number.number c.index-states-number.result c.deref.result.now c.may_end.result
      c.loop-number-test.true c.index-states-number.is c.deref.ensures.value c.may_end.ensures c.loop-number.invariant.count c.in_ok-push.ensures.items c.loop-number.invariant.ends;
  count = (let n = c.loop-number.invariant.count in ap length c.in_ok-push.ensures.items ∙ (length_push c.loop-number.ends.items c.may_end.result ∙ ap (λ k. k + 1) n));
}
