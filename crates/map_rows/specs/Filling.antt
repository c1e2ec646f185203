-- What the cells of a row are made of, by the places of the rows that it is made from.
use Rattle.std.specs.Prelude.{◌≡◌, ℕ, ◌+◌, ◌<◌, min, List, replicate}
use Rattle.map_rows.specs.Piece.{Piece}
use Rattle.map_rows.specs.Places.{LiesIn, AreApart, number}
use Rattle.map_rows.specs.Rows.{RowMap, composed, added, identity}
use Rattle.map_rows.specs.declared.place.Place.{Place}
use Rattle.map_rows.specs.declared.whole.Plain.{Plain}
use Rattle.map_rows.specs.declared.whole.Plain.TheVariants.{Zeros, Places}
use Rattle.map_rows.specs.declared.whole.Operation.{Operation}
use Rattle.map_rows.specs.declared.whole.Operation.TheVariants.{Composition, Sum}
use Rattle.map_rows.specs.declared.whole.Filling.{Filling}
use Rattle.map_rows.specs.declared.whole.Filling.TheVariants.{Alone, Pair}

-- the number for a place
abbrev pub plain_number : Plain → ℕ → ℕ
plain_number Zeros i = 0
plain_number Places i = i

-- the number for a place, from what the rows have
abbrev pub pair_number : Operation → (ℕ → ℕ) → (ℕ → ℕ) → ℕ → ℕ
pair_number Composition first second i = second (first i)
pair_number (Sum cap) first second i = min (first i + second i) cap

-- the number for a place, read from these blocks
abbrev pub number_for : List Piece → Filling → ℕ → ℕ
number_for bs (Alone plain) i = plain_number plain i
number_for bs (Pair operation p q) i =
    pair_number operation (λ k. number bs p.block (p.start + k)) (λ k. number bs q.block (q.start + k)) i

-- where one map comes after another, the first one's numbers are places of the second
abbrev pub IsWithin : List Piece → ℕ → Operation → Place → Type 0
IsWithin bs width Composition p = (i : ℕ) → i < width → number bs p.block (p.start + i) < width
IsWithin bs width (Sum cap) p = Unit {0}

-- the two rows lie in the blocks, and can be taken together
pub record IsPair (bs : List Piece) (width : ℕ) (operation : Operation) (p q : Place) : Type 0 where
  pub first : LiesIn bs p width
  pub second : LiesIn bs q width
  pub within : IsWithin bs width operation p

-- the rows that it is made from lie in the blocks
abbrev pub IsFilling : List Piece → ℕ → Filling → Type 0
IsFilling bs width (Alone plain) = Unit {0}
IsFilling bs width (Pair operation p q) = IsPair bs width operation p q

-- none of them is the row that is written
abbrev pub IsApart : Place → ℕ → Filling → Type 0
IsApart out width (Alone plain) = Unit {0}
IsApart out width (Pair operation p q) = AreApart out p width × AreApart out q width

-- the rows of that width, as maps or as counts, can be filled so
abbrev pub CanFill : RowMap → Plain → Type 0
CanFill v Zeros = Unit {0}
CanFill v Places = v.cap + 1 ≡ v.width

-- they can be taken together so
abbrev pub CanPair : RowMap → Operation → Type 0
CanPair v Composition = v.cap + 1 ≡ v.width
CanPair v (Sum cap) = cap ≡ v.cap

-- the row that is made of no other
abbrev pub plain_row : ℕ → Plain → List ℕ
plain_row width Zeros = replicate width 0
plain_row width Places = identity width

-- the row that is made of two
abbrev pub pair_row : Operation → List ℕ → List ℕ → List ℕ
pair_row Composition xs ys = composed xs ys
pair_row (Sum cap) xs ys = added cap xs ys
