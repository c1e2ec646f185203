-- The bytes that are left of a generated stream.
use Rattle.std.specs.Prelude.{ℕ, List, ◌∷◌, ◌++◌, drop, Option, None, Some}
use Rattle.generated_stream.specs.Lines.{pieces_lines, lines_text}
use Rattle.generated_stream.specs.declared.piece.Piece.{Piece}
use Rattle.generated_stream.specs.declared.source.GeneratedSource.{GeneratedSource}

-- the pieces that are left: one that was taken, and those to come
abbrev pub pieces_left : Option Piece → List Piece → List Piece
pieces_left None more = more
pieces_left (Some piece) more = piece ∷ more

-- what is left of the buffer, and the text of the pieces that are left
abbrev pub rest_of : GeneratedSource → List ℕ
rest_of s = drop s.at s.buffer.text.items ++ lines_text (pieces_lines (pieces_left s.pending s.pieces))
