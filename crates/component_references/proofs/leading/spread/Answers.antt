use Rattle.std.proofs.Common.{arith}
use Rattle.component_references.proofs.MarkLaws.{reach-begun, reach-more, reach-done}
use Rattle.component_references.proofs.leading.spread.Goals as goal

pub loop-y-init : goal.loop-y-init
loop-y-init c = record {
  len = omega arith;
  todo = rw (← c.requires.len) c.in_ok-mark.ensures.todo;
  reach = reach-begun c.args.refs.now c.args.x c.args.seen.now c.mark.new.seen c.mark.new.todo.items c.requires.none
      (rw (c.refs_at.ensures, c.new-todo.ensures.items) at c.in_ok-mark.ensures.marking) (rw c.refs_at.ensures at c.in_ok-mark.ensures.all);
}

pub loop-y-preserved : goal.loop-y-preserved
loop-y-preserved c = record {
  len = omega arith;
  todo = rw (← c.loop-y.invariant.len) c.in_ok-mark-2.ensures.todo;
  reach = reach-more c.args.refs.now c.args.x c.in-Some.y c.loop-y.seen c.mark-in-Some.new.seen c.pop.new.self.items c.mark-in-Some.new.todo.items
      (rw c.in-Some.ensures.items at c.loop-y.invariant.reach)
      (rw c.refs_at-in-Some.ensures at c.in_ok-mark-2.ensures.marking) (rw c.refs_at-in-Some.ensures at c.in_ok-mark-2.ensures.all);
}

pub returns : goal.returns
returns c = reach-done c.args.refs.now c.args.x c.loop-y.seen c.loop-y.todo.items (omega (arith, c.loop-y.todo.ok.0, c.in_default.ensures.cases.0)) c.loop-y.invariant.reach
