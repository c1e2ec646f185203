use Rattle.std.proofs.Common.{Result, length}
use Rattle.xs_codes.specs.declared.code.Code.{Code}
use Rattle.facets.specs.declared.atomic.Accepted.{Accepted}
use Rattle.facets.specs.Trying.{AreMembersTried}
use Rattle.facets.proofs.trying.read_union.Given as goal

abbrev pub invariant-members : goal.invariant-members
invariant-members l = (outcome : Result Accepted Code) → AreMembersTried l.union_of.gates l.scope l.text l.index l.start l.members outcome
    → AreMembersTried l.union_of.gates l.scope l.text 0 0 l.union_of.members outcome

abbrev pub decreases-members : goal.decreases-members
decreases-members l = length l.members
