use Rattle.std.proofs.Common.{arith, length-take}
use Rattle.xsv_io.proofs.Pieces.{piece_then_rest, none_at_end}
use Rattle.xsv_io.proofs.memory.MemSourceSource.read.Goals as goal

pub returns-clause-bytes : goal.returns-clause-bytes
returns-clause-bytes c =
    let s = c.args.self.now in
    let copied = rw c.deref.ensures.value at c.copy_from_slice.ensures.after in (
      piece_then_rest s.bytes.items c.args.into.now c.copy_from_slice.new.self s.at c.min-count.result copied (omega (arith, s.bytes.ok.0)),
      λ z l. none_at_end s.bytes.items c.args.into.now c.copy_from_slice.new.self s.at c.min-count.result s.piece (omega (arith, s.bytes.ok.0)) s.moves (omega (arith, length-take c.min-count.result c.args.into.now)) z l,
    )
