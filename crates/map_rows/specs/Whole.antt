-- How the parts of a block belong together.
use Rattle.std.specs.Prelude.{◌≡◌, ℕ, ◌<◌, length}
use Rattle.std.specs.declared.alloc.Global.{Global}
use Rattle.map_rows.specs.Memory.{IsFilled}
use Rattle.map_rows.specs.declared.block.Base.{Base}
use Rattle.map_rows.specs.declared.block.Cells.{Cells}
use Rattle.map_rows.specs.declared.block.Deed.{Deed}

-- each cell holds a number, and the deed is the right to give these cells back
pub record IsWhole (alloc : Global) (base : Base) (len : ℕ) (cells : Cells) (deed : Deed Global) : Type 0 where
  pub at : cells.at ≡ base.at
  pub size : length cells.slots ≡ len
  pub filled : (i : ℕ) → i < len → IsFilled cells.slots i
  pub deed_alloc : deed.alloc ≡ alloc
  pub deed_at : deed.at ≡ base.at
  pub deed_len : deed.len ≡ len
