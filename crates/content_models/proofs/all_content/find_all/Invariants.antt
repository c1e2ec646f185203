use Rattle.std.proofs.Common.{slice_index}
use Rattle.content_models.proofs.WayLaws.{IsWay}
use Rattle.content_models.proofs.all_content.find_all.Given as goal

abbrev pub invariant-loop-below : goal.invariant-loop-below
invariant-loop-below l = IsWay l.parts l.fn.p l.at l.optional

abbrev pub decreases-loop-below : goal.decreases-loop-below
decreases-loop-below l = slice_index l.parts.particles.ranks l.at
