use Rattle.std.proofs.Common.{◌≡◌, drop}
use Rattle.simple_types.specs.SimpleTypes.{first_of}
use Rattle.simple_types.proofs.building.first_of.Given as goal

abbrev pub invariant-loop-judged : goal.invariant-loop-judged
invariant-loop-judged l = first_of l.best (drop l.judged-index l.types) ≡ first_of l.initial.best l.types
