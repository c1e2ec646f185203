use Rattle.std.proofs.Common.{slice_index}
use Rattle.schema_models.proofs.FindLaws.{IsOnWay}
use Rattle.schema_models.proofs.finding.find_all.Given as goal

abbrev pub invariant-loop-below : goal.invariant-loop-below
invariant-loop-below l = IsOnWay l.parts l.fn.p l.at

abbrev pub decreases-loop-below : goal.decreases-loop-below
decreases-loop-below l = slice_index l.parts.particles.ranks l.at
