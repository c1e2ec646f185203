use Rattle.particle_forms.proofs.ModelLaws.{part-read}
use Rattle.particle_models.proofs.Entering.{when_ok}
use Rattle.schema_models.proofs.AgreeLaws.{gives-none, gives-element}
use Rattle.schema_models.proofs.consistency.add_part.Goals as goal

pub returns-in-Some : goal.returns-in-Some
returns-in-Some c =
    let is = part-read _ _ c.args.id _ c.particles.ensures.parts c.index-particles-id.is c.requires.there in
    when_ok c.add_element.result _ _ c.add_element.ensures
    (λ f. gives-element c.args.members.now c.args.parts.now c.args.id c.index-particles-id.result is c.in-Some.element c.in-Some.ensures c.args.given.now.items c.add_element.new.given.items f)

pub returns-in-None : goal.returns-in-None
returns-in-None c =
    let is = part-read _ _ c.args.id _ c.particles.ensures.parts c.index-particles-id.is c.requires.there in
    gives-none c.args.members.now c.args.parts.now c.args.id c.index-particles-id.result is c.in-None.ensures c.args.given.now.items
