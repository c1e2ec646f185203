use Rattle.std.proofs.Common.{◌-◌, ◌++◌, drop, arith, ap, sym, ◌∙◌, length-take}
use Rattle.generated_stream.specs.Lines.{pieces_lines, lines_text}
use Rattle.generated_stream.specs.Rest.{pieces_left}
use Rattle.generated_stream.proofs.Buffers.{piece_then_more, at_its_end}
use Rattle.generated_stream.proofs.reading.GeneratedSourceSource.read.Goals as goal

pub returns-clause-bytes : goal.returns-clause-bytes
returns-clause-bytes c =
    let s = c.begin.new.self in
    let n = c.min-count.result in
    let xs = s.buffer.text.items in
    let more = lines_text (pieces_lines (pieces_left s.pending s.pieces)) in
    let copied = rw c.deref.ensures.value at c.copy_from_slice.ensures.after in
    let within = s.within in (
      sym c.in_ok-begin.ensures.rest ∙ piece_then_more xs more c.args.into.now c.copy_from_slice.new.self s.at n copied (omega (arith, s.buffer.text.ok.0)),
      λ z l.
          let over = at_its_end c.args.into.now c.copy_from_slice.new.self (s.buffer.text.len - s.at) n (omega arith) (omega (arith, length-take n c.args.into.now)) z l in
          ap (λ k. drop k xs ++ more) (omega arith) ∙ c.in_ok-begin.ensures.some (omega arith),
    )
