use Rattle.std.proofs.Common.{◌<◌, length, ◌∙◌, arith, length-set}
use Rattle.xs_positions.proofs.Ordering.{members_more, rises_more, all_sorted}
use Rattle.xs_positions.proofs.sets.sorted.Goals as goal

pub loop-i-preserved : goal.loop-i-preserved
loop-i-preserved c =
    let inv = c.loop-i.invariant in
    let l : c.loop-i.i < length c.loop-i.rows.items = (let e = inv.count in omega arith) in
    record {
      count = length-set c.loop-i.rows.items c.loop-i.i c.sort_unique.new.set ∙ inv.count;
      members = members_more c.loop-i.rows.items c.loop-i.i c.index_mut.result.now c.sort_unique.new.set l c.index_mut.ensures.value _ _ c.sort_unique.ensures.members inv.members;
      rises = rises_more c.loop-i.rows.items c.loop-i.i c.index_mut.result.now c.sort_unique.new.set l c.index_mut.ensures.value c.sort_unique.ensures.rises inv.rises;
    }

pub returns : goal.returns
returns c =
    let inv = c.loop-i.invariant in
    all_sorted c.args.rows.items c.loop-i.rows.items c.loop-i.i inv.count (let e = inv.count in omega arith) inv.members inv.rises
