-- What a block's cells own and lend.
use Rattle.std.specs.Prelude.{◌≡◌, ℕ, ◌+◌, ◌*◌, ◌^◌, List, [], ◌∷◌, length, Option, Some, None, slice_index_or}
use mir.Syntax.{Ty, w16, ty_int, ty_array}
use base.Fraction.{full_share}
use base.Fml.{Lft, Fml, ftrue, ffalse, fsep, flt, froom}
use denote.Builtin.{u16}
use denote.Memory.{part_at, shared_of}
use denote.Sharing.{nothing, said, beside}
use denote.RawPtr.{Ptr, block_ptr, null_ptr}

-- memory for n cells
abbrev pub units_of : ℕ → Ty
units_of n = ty_array (ty_int w16) n

-- the cell at the index holds a number
abbrev pub IsFilled : List (Option ℕ) → ℕ → Type 0
IsFilled cs i = (x : ℕ) × (slice_index_or cs i None ≡ Some x)

-- one cell, o bytes into the block b
abbrev pub slot : ℕ → ℕ → Option ℕ → Fml
slot b o (Some x) = part_at u16 full_share x b o
slot b o None = froom (ty_int w16) b o

-- cells side by side
abbrev pub slots : ℕ → ℕ → List (Option ℕ) → Fml
slots b o [] = ftrue
slots b o (c ∷ cs) = fsep (slot b o c) (slots b (o + 2) cs)

-- the cells take fewer than 2 ^ 63 bytes
abbrev pub fit : List (Option ℕ) → Fml
fit cs = flt (length cs * 2) (2 ^ 63)

-- these cells lie at the pointer
abbrev pub cells_own : Ptr → List (Option ℕ) → Fml
cells_own (block_ptr b o) cs = fsep (fit cs) (slots b o cs)
cells_own null_ptr cs = ffalse

-- a `&` to each number that is there
abbrev pub slot_lent : ℕ → ℕ → Option ℕ → Lft → Fml
slot_lent b o (Some x) = shared_of u16 x b o
slot_lent b o None = nothing

abbrev pub slots_lent : ℕ → ℕ → List (Option ℕ) → Lft → Fml
slots_lent b o [] = nothing
slots_lent b o (c ∷ cs) = beside (slot_lent b o c) (slots_lent b (o + 2) cs)

abbrev pub cells_lent : Ptr → List (Option ℕ) → Lft → Fml
cells_lent (block_ptr b o) cs = beside (said (fit cs)) (slots_lent b o cs)
cells_lent null_ptr cs = said ffalse
