-- Where rows lie in blocks. Each row takes the same number of cells, its stride.
use Rattle.std.specs.Prelude.{◌≡◌, ◌≢◌, ◌⊎◌, ℕ, ◌+◌, ◌-◌, ◌*◌, ◌/◌, ◌%◌, ◌^◌, ◌<◌, ◌≤◌, ◌==◌, if◌then◌else◌, List, [], length, Option, Some, None, slice_index, slice_index_or}
use denote.RawPtr.{null_ptr}
use Rattle.map_rows.specs.Piece.{Piece}
use Rattle.map_rows.specs.declared.place.Place.{Place}

-- the block of a number, or an empty one
abbrev pub piece_at : List Piece → ℕ → Piece
piece_at bs k = slice_index_or bs k record { at = null_ptr; numbers = [] }

-- the m-th number in the k-th block
abbrev pub number : List Piece → ℕ → ℕ → ℕ
number bs k m = slice_index (piece_at bs k).numbers m

-- the block that a row lies in, and how many cells come before it there
abbrev pub block_of : ℕ → ℕ
block_of r = r / 1024

abbrev pub start_of : ℕ → ℕ → ℕ
start_of stride r = r % 1024 * stride

-- the i-th cell of a row
abbrev pub cell : List Piece → ℕ → ℕ → ℕ → ℕ
cell bs stride r i = number bs (block_of r) (start_of stride r + i)

-- the blocks have room for a row of this number
pub record IsPlace (bs : List Piece) (stride r : ℕ) : Type 0 where
  pub block : block_of r < length bs
  pub room : start_of stride r + stride ≤ length (piece_at bs (block_of r)).numbers

-- n cells lie at the place
pub record LiesIn (bs : List Piece) (p : Place) (n : ℕ) : Type 0 where
  pub block : p.block < length bs
  pub base : p.base.at ≡ (piece_at bs p.block).at
  pub room : p.start + n ≤ length (piece_at bs p.block).numbers
  pub fits : p.start + n < 2 ^ 63

-- all but n cells from this one on in the k-th block is as before
pub record ChangesOnly (old new : List Piece) (k from n : ℕ) : Type 0 where
  pub blocks : length new ≡ length old
  pub bases : (j : ℕ) → (piece_at new j).at ≡ (piece_at old j).at
  pub sizes : (j : ℕ) → length (piece_at new j).numbers ≡ length (piece_at old j).numbers
  pub others : (j m : ℕ) → ((j ≢ k) ⊎ (m < from) ⊎ (from + n ≤ m)) → number new j m ≡ number old j m

-- n cells at one place are none of n cells at the other
abbrev pub AreApart : Place → Place → ℕ → Type 0
AreApart p q n = (p.block ≢ q.block) ⊎ (p.start + n ≤ q.start) ⊎ (q.start + n ≤ p.start)

-- the row's number that two cells tell, or none
abbrev pub link_of : ℕ → ℕ → Option ℕ
link_of low high = if high * 65536 + low == 2 ^ 32 - 1 then None else Some (high * 65536 + low)

-- the row that comes after this one among the free rows
abbrev pub next : List Piece → ℕ → ℕ → Option ℕ
next bs stride r = link_of (number bs (block_of r) (start_of stride r)) (number bs (block_of r) (start_of stride r + 1))
