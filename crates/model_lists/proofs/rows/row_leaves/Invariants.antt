use Rattle.std.proofs.Common.{◌≡◌, take, map}
use Rattle.model_terms.specs.Terms.{is_ambivalent_symbol}
use Rattle.model_lists.specs.Inside.{leaf_for}
use Rattle.model_lists.proofs.rows.row_leaves.Given as goal

abbrev pub invariant-loop-symbol : goal.invariant-loop-symbol
invariant-loop-symbol l = l.leaves.items ≡ take l.symbol-index (map (leaf_for (λ n. n) (is_ambivalent_symbol l.automaton)) l.symbols)
