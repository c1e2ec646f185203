use Rattle.std.proofs.Common.{◌≡◌, ◌<◌, [], map, length, drop}
use Rattle.std.specs.Prelude.{All as Each}
use Rattle.particle_models.specs.Trees.{joined}
use Rattle.particle_models.specs.Parts.{trees_from, members_at}
use Rattle.particle_models.specs.Forming.{gathered_of, form_of}
use Rattle.particle_models.proofs.forming.gather.Given as goal

abbrev pub invariant-loop-member : goal.invariant-loop-member
invariant-loop-member l = record {
  below : Each (λ id. id < length l.parts) l.below.items;
  trees : joined (members_at (trees_from [] l.parts) l.below.items) (gathered_of l.compositor (map (form_of l.parts l.made) (drop l.member-index l.members))) ≡ gathered_of l.compositor (map (form_of l.parts l.made) l.members);
}
