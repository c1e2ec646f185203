-- What is known of an expression before its sets are built: how large it is, and whether it has the empty word, and any.
use Rattle.std.specs.Prelude.{◌≡◌, ℕ, ◌-◌, ◌^◌, min, Bool, true, false, ◌&&◌, ◌||◌, nat_le, ◌==◌, Option, Some, None, List, map}
use Rattle.xs_positions.specs.Tree.{Tree, one, empty, chain, nothing, either, repeat, size}
use Rattle.xs_positions.specs.Nodes.{trees_of, IsOrdered}
use Rattle.xs_positions.specs.declared.expr.Node.{Node}
use Rattle.xs_positions.specs.declared.measures.Measure.{Measure}

-- some number of rounds lies within the bounds
abbrev pub has_rounds : ℕ → Option ℕ → Bool
has_rounds least None = true
has_rounds least (Some most) = nat_le least most

-- the empty word is one of the expression
abbrev pub has_empty : Tree → Bool
has_empty (one symbol) = false
has_empty empty = true
has_empty (chain first rest) = has_empty first && has_empty rest
has_empty nothing = false
has_empty (either first rest) = has_empty first || has_empty rest
has_empty (repeat part least most) = has_rounds least most && (least == 0 || has_empty part)

-- the expression has a word
abbrev pub has_word : Tree → Bool
has_word (one symbol) = true
has_word empty = true
has_word (chain first rest) = has_word first && has_word rest
has_word nothing = false
has_word (either first rest) = has_word first || has_word rest
has_word (repeat part least most) = has_rounds least most && (least == 0 || has_word part)

-- the measure of a tree; a size past 64 bits counts as the largest number of 64 bits
abbrev pub measure_of : Tree → Measure
measure_of tree = record { size = min (size tree) (2 ^ 64 - 1); nullable = has_empty tree; inhabited = has_word tree }

-- the nodes are in order, and these are their measures
pub record AreMeasured (nodes : List Node) (measures : List Measure) : Type 0 where
  pub ordered : IsOrdered nodes
  pub measured : measures ≡ map measure_of (trees_of nodes)
