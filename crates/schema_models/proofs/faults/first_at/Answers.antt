use Rattle.std.proofs.Common.{◌<◌, ℕ, List, length, sym, subst, ◌∙◌}
use Rattle.std.specs.Prelude.{All}
use Rattle.schema_models.proofs.FindLaws.{held-there}
use Rattle.schema_models.proofs.FaultLaws.{members-are, whole-at}
use Rattle.schema_models.proofs.faults.first_at.Goals as goal

pub first_nested-nested-requires-clause-there : goal.first_nested-nested-requires-clause-there
first_nested-nested-requires-clause-there c =
    subst (λ (xs : List ℕ). All (λ q. q < length c.args.parts.now.particles.parts) xs) (sym c.held.ensures) (held-there c.args.parts.now c.args.p c.particle.result.now c.particle.ensures.part c.requires.ranked)

pub returns : goal.returns
returns c =
    whole-at c.args.parts.now c.args.p c.held.result.now c.crowded.result c.repeated.result c.first_nested-nested.result c.first_member.result c.sooner-own.result c.sooner.result c.sooner-2.result
    (c.held.ensures ∙ sym (members-are c.args.parts.now c.args.p c.particle.result.now c.particle.ensures.part)) c.sooner-own.ensures.sooner c.sooner.ensures.sooner c.sooner-2.ensures.sooner
    c.crowded.ensures c.repeated.ensures c.first_nested-nested.ensures c.first_member.ensures
