use Rattle.std.proofs.Common.{◌∙◌, ap}
use Rattle.map_rows.specs.Piece.{numbers_of}
use Rattle.map_rows.proofs.Slots.{numbers-zeros}
use Rattle.map_rows.proofs.block.Block.zeros.Goals as goal

pub returns : goal.returns
returns c = ap numbers_of c.fill.ensures.zeros ∙ numbers-zeros c.args.len
