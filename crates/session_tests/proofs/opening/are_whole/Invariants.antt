use Rattle.std.proofs.Common.{All}
use Rattle.std.specs.Prelude.{take}
use Rattle.tree_rows.specs.Whole.{IsTree}
use Rattle.session_tests.proofs.opening.are_whole.Given as goal

-- the trees so far are whole
abbrev pub invariant-loop-input : goal.invariant-loop-input
invariant-loop-input l = All (λ input. IsTree input.tree) (take l.input-index l.documents)
