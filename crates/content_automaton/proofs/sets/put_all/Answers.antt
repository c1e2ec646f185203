use Rattle.std.proofs.Common.{◌∙◌, arith}
use Rattle.std.specs.Prelude.{Contains}
use Rattle.content_automaton.proofs.Marking.{put_more, put_whole}
use Rattle.content_automaton.proofs.sets.put_all.Goals as goal

pub put_one-requires-clause-fits : goal.put_one-requires-clause-fits
put_one-requires-clause-fits c = let b = c.requires.fits c.loop-p.p-index 0 c.loop-p-test.true in let k = c.loop-p.invariant.count in omega arith

pub loop-p-preserved : goal.loop-p-preserved
loop-p-preserved c = record {
  members = put_more (Contains c.args.list.now.items) (Contains c.loop-p.list.items) (Contains c.put_one.new.list.items) c.args.more.now c.loop-p.p-index c.loop-p-test.true
      c.loop-p.invariant.members c.in_ok-put_one.ensures.members;
  listed = c.in_ok-put_one.ensures.listed;
  count = c.in_ok-put_one.ensures.count ∙ c.loop-p.invariant.count;
}

pub returns-clause-members : goal.returns-clause-members
returns-clause-members c =
    put_whole (Contains c.args.list.now.items) (Contains c.loop-p.list.items) c.args.more.now c.loop-p.p-index c.loop-p-test.false c.loop-p.invariant.members
