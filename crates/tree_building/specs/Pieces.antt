-- The characters that came, as they are kept.
use Rattle.std.specs.Prelude.{ℕ, List, string_bytes}
use Rattle.tree_building.specs.declared.pending.Pieces.{Pieces}
use Rattle.tree_building.specs.declared.pending.Pieces.TheVariants as pieces

abbrev pub characters_of : Pieces → List ℕ
characters_of (pieces.One text) = text
characters_of (pieces.More more) = string_bytes more
