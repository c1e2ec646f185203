use Rattle.std.proofs.Common.{Result, drop}
use Rattle.xs_codes.specs.declared.code.Code.{Code}
use Rattle.facets.specs.declared.atomic.Accepted.{Accepted}
use Rattle.facets.specs.Trying.{ArePlainsTried}
use Rattle.facets.proofs.trying.try_plains.Given as goal

abbrev pub invariant-loop-place : goal.invariant-loop-place
invariant-loop-place l = (outcome : Result Accepted Code) → ArePlainsTried l.gates l.scope l.text l.place l.start (drop l.place l.members) outcome
    → ArePlainsTried l.gates l.scope l.text 0 0 l.members outcome
