use Rattle.std.proofs.Common.{◌≡◌, ◌<◌, ◌≤◌, take, take_all, get_or, slice_index, arith}
use Rattle.std.specs.Prelude.{All}
use Rattle.std.proofs.lemmas.List.Elements.{All-more}
use Rattle.component_references.proofs.circling.are_below.Goals as goal

pub loop-x-preserved : goal.loop-x-preserved
loop-x-preserved c =
    let one : slice_index c.args.levels.now (get_or c.args.xs.now c.loop-x.x-index 0) < c.args.level = omega (arith, c.number_at.ensures, c.if-number_at-level.false) in
    All-more (λ y. slice_index c.args.levels.now y < c.args.level) c.args.xs.now c.loop-x.x-index 0 c.loop-x-test.true c.loop-x.invariant one

pub returns : goal.returns
returns c = λ e. let all : take c.loop-x.x-index c.args.xs.now ≡ c.args.xs.now = take_all _ _ (omega arith) in rw all at c.loop-x.invariant
