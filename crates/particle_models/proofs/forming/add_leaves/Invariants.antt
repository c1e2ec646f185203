use Rattle.std.proofs.Common.{◌≡◌, ◌<◌, [], length, take}
use Rattle.std.specs.Prelude.{All as Each}
use Rattle.particle_models.specs.Pointless.{leaves}
use Rattle.particle_models.specs.Parts.{trees_from, members_at}
use Rattle.particle_models.specs.Forming.{AreOrdered, Extends}
use Rattle.particle_models.proofs.forming.add_leaves.Given as goal

abbrev pub invariant-loop-term : goal.invariant-loop-term
invariant-loop-term l = record {
  ordered : AreOrdered l.parts.items;
  extends : Extends l.fn.parts.items l.parts.items;
  below : Each (λ id. id < length l.parts.items) l.members.items;
  trees : members_at (trees_from [] l.parts.items) l.members.items ≡ leaves (take l.term-index l.terms);
}
