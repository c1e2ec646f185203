use Rattle.std.proofs.Common.{take}
use Rattle.content_models.specs.Letters.{AreNoted}
use Rattle.content_models.proofs.letters.note.Given as goal

abbrev pub invariant-loop-symbol : goal.invariant-loop-symbol
invariant-loop-symbol l = AreNoted l.fn.letters.items l.member (take l.symbol-index l.row) l.letters.items l.pair
