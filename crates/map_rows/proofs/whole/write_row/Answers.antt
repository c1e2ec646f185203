use Rattle.std.proofs.Common.{◌≤◌, ◌∙◌, arith}
use Rattle.map_rows.proofs.Fillings.{filling_still, number_still}
use Rattle.map_rows.proofs.Frames.{ChangesOnly-more, written_more}
use Rattle.map_rows.proofs.whole.write_row.Goals as goal

pub number_at-number-requires-clause-filling : goal.number_at-number-requires-clause-filling
number_at-number-requires-clause-filling c =
    let le : c.loop-at.at ≤ c.args.width = omega (arith, c.loop-at-test.true) in
    filling_still c.args.blocks.now c.loop-at.blocks c.args.out c.loop-at.at c.args.width c.loop-at.invariant.1 le c.args.filling c.requires.apart c.requires.filling

pub loop-at-preserved : goal.loop-at-preserved
loop-at-preserved c =
    let a = c.args.blocks.now in
    let b = c.loop-at.blocks in
    let i = c.loop-at.at in
    let frame = c.loop-at.invariant.1 in
    let le : i ≤ c.args.width = omega (arith, c.loop-at-test.true) in
    let same = number_still a b c.args.out i c.args.width frame le c.args.filling i c.loop-at-test.true c.requires.apart c.requires.filling in (
      written_more b c.write.new.blocks c.args.out.block c.args.out.start i _ c.loop-at.invariant.0 c.write.ensures.frame (c.write.ensures.value ∙ c.number_at-number.ensures ∙ same),
      ChangesOnly-more a b c.write.new.blocks c.args.out.block c.args.out.start i frame c.write.ensures.frame,
    )
