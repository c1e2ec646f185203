-- Lines as they are kept.
use Rattle.std.specs.Prelude.{List}
use Rattle.tag_names.specs.declared.lines.AttributeLine.{AttributeLine}
use Rattle.tag_names.specs.declared.lines.KeptLines.{KeptLines}
use Rattle.tag_names.specs.declared.lines.KeptLines.TheVariants as kept

abbrev pub lines_of : KeptLines → List AttributeLine
lines_of (kept.Few lines) = lines
lines_of (kept.Many packed) = packed
