use Rattle.std.proofs.Common.{arith}
use Rattle.particle_restrict.proofs.TotalLaws.{totals-length}
use Rattle.particle_restrict.proofs.restriction.form_restricts.Goals as goal

pub total_at-requires : goal.total_at-requires
total_at-requires g c =
    let there = rw c.in-Some.is at c.requires.base.there in
    let all = totals-length c.in_ok-base_totals.base_totals.items c.args.base.now.parts.items (rw c.deref.ensures.value at c.in_ok-base_totals.ensures) in
    rw c.deref-in_default-root.ensures.value (omega arith)
