-- What parts write, one after another.
use Rattle.std.specs.Prelude.{ℕ, List, flat_map}
use Rattle.std.specs.Fmt.{decimal}
use Rattle.xsv_io.specs.declared.part.Part.{Part}
use Rattle.xsv_io.specs.declared.part.Part.TheVariants.{Text, Escaped, Number}
use Rattle.xsv_io.specs.Escaping.{escaped}

abbrev pub part_text : Part → List ℕ
part_text (Text text) = text.now
part_text (Escaped text) = escaped text.now
part_text (Number number) = decimal number

abbrev pub parts_text : List Part → List ℕ
parts_text parts = flat_map part_text parts
