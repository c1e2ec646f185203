use Rattle.std.proofs.Common.{◌∙◌, ap, map, get_or, false, take_all, arith}
use Rattle.xs_components.specs.declared.particle.Particle.{Particle as Part}
use Rattle.particle_forms.specs.Accepted.{term_is_inhabited}
use Rattle.particle_forms.proofs.AcceptedLaws.{flags-at, inhabited-by}
use Rattle.particle_forms.proofs.inhabited.Inhabited.of.Goals as goal

pub returns-in_err-push-clause-names : goal.returns-in_err-push-clause-names
returns-in_err-push-clause-names c = λ names. inhabited-by names c.args.members.now c.args.parts.now

pub returns-clause-flags : goal.returns-clause-flags
returns-clause-flags c = λ id.
    ap (λ flags. get_or flags id false) (c.loop-part.invariant ∙
    ap (map (λ (part : Part). term_is_inhabited c.args.members.now part.term)) (take_all c.loop-part.part-index c.particles-part-items.result.now (omega (arith, c.loop-part-test.false)) ∙ c.particles-part-items.ensures.parts)) ∙
    flags-at c.args.members.now c.args.parts.now.particles.parts id

pub returns-clause-names : goal.returns-clause-names
returns-clause-names c = λ names. inhabited-by names c.args.members.now c.args.parts.now
