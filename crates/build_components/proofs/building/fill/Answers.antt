use Rattle.std.proofs.Common.{ap, ◌∙◌}
use Rattle.build_components.specs.declared.steps.AttributeNumbers.{AttributeNumbers}
use Rattle.build_components.proofs.BuildLaws.{none-yet, simples-needed, complexes-needed, built-is}
use Rattle.build_components.proofs.building.fill.Goals as goal

pub add_attribute_parts-requires : goal.add_attribute_parts-requires
add_attribute_parts-requires c = record {
  none = none-yet c.args.source.now c.args.parts.now c.number_types.new.parts c.as_slice-types.result.now c.requires.empty (c.as_slice-types.ensures ∙ c.in_ok-type_ids.ensures.ids) c.in_ok-type_ids.ensures.parts;
}

pub fill_types-requires : goal.fill_types-requires
fill_types-requires c = record {
  simples = simples-needed c.args.source.now c.args.parts.now c.number_types.new.parts c.as_slice-types.result.now c.requires.empty (c.as_slice-types.ensures ∙ c.in_ok-type_ids.ensures.ids) c.in_ok-type_ids.ensures.parts
      c.add_attribute_parts.new.parts c.add_element_parts.new.parts c.as_slice-attributes.result.now c.as_slice-groups.result.now c.as_slice-particles.result.now
      (c.as_slice-attributes.ensures ∙ ap (λ (n : AttributeNumbers). n.attributes) c.in_ok-given.ensures.numbers) (c.as_slice-groups.ensures ∙ ap (λ (n : AttributeNumbers). n.groups) c.in_ok-given.ensures.numbers)
      c.in_ok-given.ensures.parts (c.as_slice-particles.ensures ∙ c.in_ok-particle_ids.ensures.numbers) c.in_ok-particle_ids.ensures.parts;
  complexes = complexes-needed c.args.source.now c.args.parts.now c.number_types.new.parts c.as_slice-types.result.now c.requires.empty (c.as_slice-types.ensures ∙ c.in_ok-type_ids.ensures.ids) c.in_ok-type_ids.ensures.parts
      c.add_attribute_parts.new.parts c.add_element_parts.new.parts c.as_slice-attributes.result.now c.as_slice-groups.result.now c.as_slice-particles.result.now
      (c.as_slice-attributes.ensures ∙ ap (λ (n : AttributeNumbers). n.attributes) c.in_ok-given.ensures.numbers) (c.as_slice-groups.ensures ∙ ap (λ (n : AttributeNumbers). n.groups) c.in_ok-given.ensures.numbers)
      c.in_ok-given.ensures.parts (c.as_slice-particles.ensures ∙ c.in_ok-particle_ids.ensures.numbers) c.in_ok-particle_ids.ensures.parts;
}

pub returns : goal.returns
returns c = record {
  tables = built-is c.args.source.now c.args.parts.now c.number_types.new.parts c.as_slice-types.result.now c.requires.empty (c.as_slice-types.ensures ∙ c.in_ok-type_ids.ensures.ids) c.in_ok-type_ids.ensures.parts
      c.add_attribute_parts.new.parts c.add_element_parts.new.parts c.as_slice-attributes.result.now c.as_slice-groups.result.now c.as_slice-particles.result.now
      (c.as_slice-attributes.ensures ∙ ap (λ (n : AttributeNumbers). n.attributes) c.in_ok-given.ensures.numbers) (c.as_slice-groups.ensures ∙ ap (λ (n : AttributeNumbers). n.groups) c.in_ok-given.ensures.numbers)
      c.in_ok-given.ensures.parts (c.as_slice-particles.ensures ∙ c.in_ok-particle_ids.ensures.numbers) c.in_ok-particle_ids.ensures.parts
      c.fill_types.new.parts c.in_ok-fill_types.ensures.types;
}
