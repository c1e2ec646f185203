use Rattle.std.proofs.Common.{◌∙◌, arith}
use Rattle.std.specs.Prelude.{Contains}
use Rattle.content_automaton.proofs.Marking.{first_fits, follow_fits, come_first, come_none, none_listed, come_more, come_all}
use Rattle.content_automaton.proofs.sets.coming.Goals as goal
use Rattle.content_automaton.proofs.sets.coming.Goals.{then-starts+in_ok-put_all, else-starts}

pub put_all-requires-clause-fits : goal.put_all-requires-clause-fits
put_all-requires-clause-fits c = first_fits c.args.form.now.table _ c.in_ok-flags.flags.items c.requires.within (let l = c.in_ok-flags.ensures.len in let n = c.count.ensures in omega arith) c.first.ensures

pub put_all-requires-in-loop-p-clause-fits : goal.put_all-requires-in-loop-p-clause-fits
put_all-requires-in-loop-p-clause-fits c =
    follow_fits c.args.form.now.table _ c.loop-p.flags.items c.requires.within c.loop-p.invariant.count c.args.set.now c.loop-p.p-index c.requires.set c.loop-p-test.true c.follow.ensures

pub loop-p-init : goal.loop-p-init
loop-p-init c = elim c.if-starts.branch [
  | then-starts+in_ok-put_all w ↦ record {
    members = rw w.next-is (rw w.if-starts.true (come_first c.args.form.now.table c.args.set.now (Contains w.put_all.new.list.items) w.first.result.now w.first.ensures
        (rw c.new-next.ensures.items at w.in_ok-put_all.ensures.members)));
    listed = rw w.flags-is (rw w.next-is w.in_ok-put_all.ensures.listed);
    count = rw w.flags-is (let l = c.in_ok-flags.ensures.len in let n = c.count.ensures in let m = w.in_ok-put_all.ensures.count in omega arith);
  }
  | else-starts w ↦ record {
    members = rw w.next-is (rw c.new-next.ensures.items (rw w.if-starts.false (come_none c.args.form.now.table c.args.set.now)));
    listed = rw w.flags-is (rw w.next-is (rw (c.in_ok-flags.ensures.items_if_clones_equal (λ y e. e)) (rw c.new-next.ensures.items (none_listed _))));
    count = rw w.flags-is (let l = c.in_ok-flags.ensures.len in let n = c.count.ensures in omega arith);
  }
]

pub loop-p-preserved : goal.loop-p-preserved
loop-p-preserved c = record {
  members = come_more c.args.form.now.table c.args.starts c.args.set.now c.loop-p.p-index (Contains c.loop-p.next.items) (Contains c.put_all-in-loop-p.new.list.items) c.follow.result.now
      c.loop-p-test.true c.follow.ensures c.loop-p.invariant.members c.in_ok-put_all-2.ensures.members;
  listed = c.in_ok-put_all-2.ensures.listed;
  count = c.in_ok-put_all-2.ensures.count ∙ c.loop-p.invariant.count;
}

pub returns-clause-members : goal.returns-clause-members
returns-clause-members c =
    come_all c.args.form.now.table c.args.starts c.args.set.now c.loop-p.p-index (Contains c.loop-p.next.items) (Contains c.sort_unique.new.list.items)
    (omega (arith, c.loop-p-test.false)) c.loop-p.invariant.members c.sort_unique.ensures.members
