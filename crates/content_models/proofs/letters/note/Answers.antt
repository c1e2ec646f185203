use Rattle.std.proofs.Common.{◌+◌, get_or, take, refl, sym, subst}
use Rattle.content_models.specs.Letters.{AreNoted}
use Rattle.content_models.proofs.Noting.{noted_none, noted_more}
use Rattle.content_models.proofs.letters.note.Goals as goal

pub loop-symbol-init : goal.loop-symbol-init
loop-symbol-init c = noted_none c.args.letters.now.items c.args.member

pub loop-symbol-preserved : goal.loop-symbol-preserved
loop-symbol-preserved c =
    subst (AreNoted c.args.letters.now.items c.args.member (take (c.loop-symbol.symbol-index + 1) c.args.row.now) c.note_one.new.letters.items) (sym c.or-pair.ensures)
    (noted_more c.args.letters.now.items c.loop-symbol.letters.items c.note_one.new.letters.items c.args.member c.args.row.now c.loop-symbol.symbol-index (get_or c.args.row.now c.loop-symbol.symbol-index 0)
    c.loop-symbol.pair c.note_one.result c.loop-symbol.invariant c.requires.new c.loop-symbol-test.true refl (c.requires.below c.loop-symbol.symbol-index 0 c.loop-symbol-test.true) c.note_one.ensures)
