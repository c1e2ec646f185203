use Rattle.std.proofs.Common.{◌≡◌, List, map, take}
use Rattle.particle_models.specs.Trees.{Tree}
use Rattle.particle_models.specs.Parts.{members_at}
use Rattle.particle_restrict.specs.Totals.{total, emptiable_members}
use Rattle.particle_restrict.proofs.cells.emptiable_of.Given as goal

abbrev pub invariant-loop-member : goal.invariant-loop-member
invariant-loop-member l = (trees : List Tree) → l.base_totals ≡ map total trees → l.flags.items ≡ emptiable_members (members_at trees (take l.member-index l.members))
