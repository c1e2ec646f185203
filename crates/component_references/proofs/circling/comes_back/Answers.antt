use Rattle.std.proofs.Common.{◌≡◌, ◌<◌, slice_index, sym, true≢false, arith}
use Rattle.std.specs.Prelude.{All}
use Rattle.component_references.specs.NumberedCircles.{refs_of}
use Rattle.component_references.proofs.FirstLaws.{below-all}
use Rattle.component_references.proofs.circling.comes_back.Goals as goal

pub returns-then-are_below : goal.returns-then-are_below
returns-then-are_below c =
    let levels = c.args.levels.now in
    let all : All (λ y. slice_index levels y < slice_index levels c.args.x) (refs_of c.args.refs.now c.args.x) = rw (c.refs_at.ensures, c.number_at.ensures) at (c.are_below.ensures c.if-are_below.true) in
    record {
      exact = ((λ e. absurd (true≢false (sym e))), (λ l. let low = below-all c.args.refs.now levels c.requires.levels c.args.x all c.args.x l in absurd (omega (arith, low))));
    }
