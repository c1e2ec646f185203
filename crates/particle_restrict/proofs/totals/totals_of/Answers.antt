use Rattle.std.proofs.Common.{◌∙◌, ◌+◌, ap, length}
use Rattle.std.proofs.lemmas.List.{length_push}
use Rattle.particle_restrict.proofs.TotalLaws.{totals-more}
use Rattle.particle_restrict.proofs.totals.totals_of.Goals as goal

pub loop-part-preserved : goal.loop-part-preserved
loop-part-preserved c = record {
  count = ap length c.in_ok-push.ensures.items ∙ (length_push c.loop-part.table.items c.total_of-total.result ∙ ap (λ k. k + 1) c.loop-part.invariant.count);
  table = totals-more c.args.parts.now c.loop-part.part-index c.part-item.result c.loop-part.table.items c.push.new.self.items c.total_of-total.result c.loop-part-test.true c.part-item.is
      c.loop-part.invariant.table (rw c.deref.ensures.value at c.total_of-total.ensures) c.in_ok-push.ensures.items;
}
