use Rattle.std.proofs.Common.{◌≡◌, ◌++◌, drop}
use Rattle.tag_names.proofs.packed.PackedLines.of_lines.Given as goal

abbrev pub invariant-loop-line : goal.invariant-loop-line
invariant-loop-line l = l.packed ++ drop l.line-index l.lines ≡ l.lines
