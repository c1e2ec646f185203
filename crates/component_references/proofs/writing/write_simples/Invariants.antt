use Rattle.std.proofs.Common.{◌≡◌, ◌++◌, take, drop}
use Rattle.component_references.proofs.writing.write_simples.Given as goal

abbrev pub invariant-loop-n : goal.invariant-loop-n
invariant-loop-n l = l.parts ≡ record l.initial.parts { simples = record l.initial.parts.simples { ranks = take l.n l.ranks ++ drop l.n l.initial.parts.simples.ranks } }
