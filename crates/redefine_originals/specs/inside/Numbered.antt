-- What stands in redefines, by the numbers of elements, as the code has it.
use Rattle.std.specs.Prelude.{ℕ, Option, nat_eq}
use Rattle.std.specs.HashMap.{get}
use Rattle.std.specs.Option.{option_map}
use Rattle.redefine_originals.specs.Versions.{Child}
use Rattle.redefine_originals.specs.inside.Entries.{child_entry}
use Rattle.redefine_originals.specs.declared.numbered.NumberedChildren.{NumberedChildren}

-- the one whose element has this number
abbrev pub child_found : NumberedChildren → ℕ → Option Child
child_found children item = option_map child_entry (get nat_eq children.inner item)
