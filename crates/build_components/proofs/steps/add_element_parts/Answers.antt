use Rattle.std.proofs.Common.{◌∙◌}
use Rattle.build_components.proofs.StepLaws.{particles-numbered, elements-added}
use Rattle.build_components.proofs.steps.add_element_parts.Goals as goal

pub returns-clause-numbers : goal.returns-clause-numbers
returns-clause-numbers c = particles-numbered c.args.source.now c.args.types.now c.args.parts.now c.add_constraints.new.parts c.build_elements.new.parts c.in_ok-constraints.constraints c.as_slice.result.now
    c.in_ok-constraints.ensures.numbers c.in_ok-constraints.ensures.parts (c.as_slice.ensures ∙ c.in_ok-elements.ensures.numbers) c.in_ok-elements.ensures.parts
    c.in_ok-particles.particles c.in_ok-particles.ensures.numbers

pub returns-clause-parts : goal.returns-clause-parts
returns-clause-parts c = elements-added c.args.source.now c.args.types.now c.args.parts.now c.add_constraints.new.parts c.build_elements.new.parts c.in_ok-constraints.constraints c.as_slice.result.now
    c.in_ok-constraints.ensures.numbers c.in_ok-constraints.ensures.parts (c.as_slice.ensures ∙ c.in_ok-elements.ensures.numbers) c.in_ok-elements.ensures.parts
    c.build_particles.new.parts c.in_ok-particles.ensures.parts
