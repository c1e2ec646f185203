-- Values by a table of names that grows: they are those of the table in the end.
use Rattle.std.specs.Prelude.{◌≡◌}
use Rattle.xs_names.specs.Names.{NameTable, Grown}

-- the value is the one by each table that has grown from this one
abbrev pub IsLasting : {A : Type 0} → NameTable → (NameTable → A) → A → Type 0
IsLasting t by value = (later : NameTable) → Grown t later → value ≡ by later
