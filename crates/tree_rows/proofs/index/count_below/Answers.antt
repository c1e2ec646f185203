use Rattle.std.proofs.Common.{◌<◌, ◌∙◌, arith, rules, subst, sym}
use Rattle.tree_rows.specs.declared.row.Row.{Row}
use Rattle.tree_rows.proofs.Counting.{count_within, passes}
use Rattle.tree_rows.proofs.index.count_below.Goals as goal

pub overflow_add-place : goal.overflow_add-place
overflow_add-place c =
    let within = count_within c.args.from c.loop-place.place c.args.rows.now c.args.below.now c.index-rows-place.result c.requires.long c.requires.known c.loop-place.invariant.0 c.loop-place-test.true c.index-rows-place.is in
    search (rules, within)

pub overflow_add-place-in-loop-place : goal.overflow_add-place-in-loop-place
overflow_add-place-in-loop-place c =
    let within = count_within c.args.from c.loop-place.place c.args.rows.now c.args.below.now c.index-rows-place.result c.requires.long c.requires.known c.loop-place.invariant.0 c.loop-place-test.true c.index-rows-place.is in
    search (rules, within)

pub loop-place-preserved : goal.loop-place-preserved
loop-place-preserved c = (
  omega (arith, c.loop-place.invariant.0),
  count_within c.args.from c.loop-place.place c.args.rows.now c.args.below.now c.index-rows-place.result c.requires.long c.requires.known c.loop-place.invariant.0 c.loop-place-test.true c.index-rows-place.is,
  passes c.args.from c.loop-place.place c.args.depth c.args.rows.now c.args.below.now c.index-rows-place.result c.requires.long c.requires.known c.loop-place.invariant.0 c.loop-place-test.true c.index-rows-place.is (subst (λ (r : Row). c.args.depth < r.depth) (sym c.index-rows-place.is) c.if-rows-place.false) ∙ c.loop-place.invariant.2,
)
