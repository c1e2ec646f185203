use Rattle.std.proofs.Common.{map, get_or, false, arith}
use Rattle.std.proofs.lemmas.List.{get_or_default}
use Rattle.schema_set.specs.inside.Entries.{entry_at}
use Rattle.schema_set.specs.inside.Marks.{marks}
use Rattle.schema_set.proofs.EntryLaws.{entries-step, entries-done}
use Rattle.schema_set.proofs.entries.entries.Goals as goal

pub loop-wanted-preserved : goal.loop-wanted-preserved
loop-wanted-preserved c =
    let inv = c.loop-wanted.invariant in
    let seen = c.args.seen.now in
    let i = c.loop-wanted.wanted-index in
    let b = get_or seen i false in
    record {
      counted = omega (arith, inv.counted);
      so_far = entries-step c.args.available.now c.args.seen.now c.loop-wanted.wanted-index b c.loop-wanted.documents c.push_entry.new.documents (map (entry_at c.args.available.now) (marks 0 c.args.seen.now))
          c.loop-wanted-test.true (get_or_default seen i false b c.loop-wanted-test.true) (rw inv.counted at c.in_ok-push_entry.ensures) inv.so_far;
    }

pub returns : goal.returns
returns c =
    entries-done c.args.available.now c.args.seen.now c.loop-wanted.wanted-index c.loop-wanted.documents (map (entry_at c.args.available.now) (marks 0 c.args.seen.now)) (let l = c.loop-wanted-test.false in omega arith) c.loop-wanted.invariant.so_far
