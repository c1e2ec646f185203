use Rattle.std.proofs.Common.{◌≡◌, take, map}
use Rattle.content_models.specs.Modelled.{letter_of}
use Rattle.model_terms.specs.Terms.{is_ambivalent_symbol}
use Rattle.model_lists.specs.Inside.{leaf_for}
use Rattle.model_lists.proofs.members.member_leaves.Given as goal

abbrev pub invariant-loop-symbol : goal.invariant-loop-symbol
invariant-loop-symbol l = l.leaves.items ≡ take l.symbol-index (map (leaf_for (letter_of l.members) (is_ambivalent_symbol l.automaton)) l.symbols)
