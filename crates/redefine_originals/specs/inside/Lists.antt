-- Lists by numbers, as the code has them.
use Rattle.std.specs.Prelude.{ℕ, List, [], nat_eq}
use Rattle.std.specs.HashMap.{get}
use Rattle.std.specs.Option.{option_map_or}
use Rattle.redefine_originals.specs.declared.lists.NumberedLists.{NumberedLists}

-- the list of a number
abbrev pub listed : {T : Type 0} → NumberedLists T → ℕ → List T
listed lists number = option_map_or (λ list. list.items) (get nat_eq lists.inner number) []
