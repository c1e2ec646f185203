use Rattle.std.proofs.Common.{◌≡◌, length}
use Rattle.type_derivation.proofs.rounds.bases_first.Given as goal

abbrev pub invariant-loop-part : goal.invariant-loop-part
invariant-loop-part l = length l.refs.items ≡ l.part-index
