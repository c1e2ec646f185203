use Rattle.std.proofs.Common.{◌<◌, ℕ, List, length, sym, subst}
use Rattle.std.specs.Prelude.{All}
use Rattle.schema_models.proofs.FindLaws.{held-there}
use Rattle.schema_models.proofs.standing.mark_members.Goals as goal

pub mark-requires : goal.mark-requires
mark-requires c = record {
  there = subst (λ (n : ℕ). All (λ q. q < n) c.held.result.now) (sym c.requires.each)
      (subst (λ (xs : List ℕ). All (λ q. q < length c.args.parts.now.particles.parts) xs) (sym c.held.ensures) (held-there c.args.parts.now c.args.p c.particle.result.now c.particle.ensures.part c.requires.ranked));
}
