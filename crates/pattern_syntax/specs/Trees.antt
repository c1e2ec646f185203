-- Expressions over numbers of classes, and the expressions over classes that they stand for.
use Rattle.std.specs.Prelude.{ℕ, List, [], Bool, true, ◌&&◌, nat_lt, slice_index_or}
use Rattle.xs_positions.specs.Expressions.{renamed}
use Rattle.xs_positions.specs.Tree.{Tree, one, empty, chain, nothing, either, repeat}
use Rattle.pattern_syntax.specs.Classes.{Class}
use Rattle.pattern_syntax.specs.Regex.{Regex}

abbrev pub class_at : List Class → ℕ → Class
class_at classes number = slice_index_or classes number []

abbrev pub regex_of : List Class → Tree → Regex
regex_of classes tree = renamed (class_at classes) tree

-- each number in the tree is below the count
abbrev pub knows : ℕ → Tree → Bool
knows count (one number) = nat_lt number count
knows count empty = true
knows count (chain first rest) = knows count first && knows count rest
knows count nothing = true
knows count (either first rest) = knows count first && knows count rest
knows count (repeat part least most) = knows count part
