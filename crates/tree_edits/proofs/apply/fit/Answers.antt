use Rattle.std.proofs.Common.{◌<◌, ◌+◌, arith, sym, ◌∙◌}
use Rattle.tree_edits.proofs.Putting.{put_many, put_deep}
use Rattle.tree_edits.proofs.apply.fit.Goals as goal

pub returns-then-are_too_many-clause-err : goal.returns-then-are_too_many-clause-err
returns-then-are_too_many-clause-err c =
    put_many c.args.rows.now c.args.next_free c.args.more c.args.depth c.args.deepest c.requires.rows (sym c.are_too_many.ensures ∙ c.if-are_too_many.true)

pub returns-then-deepest-depth-clause-err : goal.returns-then-deepest-depth-clause-err
returns-then-deepest-depth-clause-err c =
    let past : 128 < c.args.depth + c.args.deepest = omega (arith, c.if-deepest-depth.true, c.requires.shallow) in
    put_deep c.args.rows.now c.args.next_free c.args.more c.args.depth c.args.deepest c.requires.rows c.requires.shallow
    (sym c.are_too_many.ensures ∙ c.if-are_too_many.false) past

pub returns-clause-ok : goal.returns-clause-ok
returns-clause-ok c = record {
  few = sym c.are_too_many.ensures ∙ c.if-are_too_many.false;
  shallow = omega (arith, c.if-deepest-depth.false, c.requires.shallow);
}
