-- What a table ends as, where a `&mut` to a part is returned.
use Rattle.std.specs.Prelude.{ℕ}
use Rattle.std.specs.Borrow.{Lends, Fml, RattleType, MutBor}
use Rattle.xs_components.specs.Table.{TableOf, with_other}
use Rattle.xs_components.specs.contracts.table.Table.{the_row}

-- once the borrow r ends, the number has the last part written through r
abbrev pub lends_part : (T : RattleType) → MutBor (TableOf T.Denot) → ℕ → MutBor T.Denot → Fml
lends_part T table number r = Lends (the_row T) T table r (λ part. with_other table.now number part)
