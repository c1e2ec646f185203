use Rattle.std.proofs.Common.{◌∙◌}
use Rattle.build_components.proofs.StepLaws.{groups-needed, attributes-added}
use Rattle.build_components.proofs.steps.add_attribute_parts.Goals as goal

pub build_attr_groups-requires : goal.build_attr_groups-requires
build_attr_groups-requires c = record {
  numbered = groups-needed c.args.source.now c.args.types.now c.args.parts.now c.add_attributes.new.parts c.number_attr_groups.new.parts c.as_slice.result.now c.as_slice-2.result.now c.requires.none
      (c.as_slice.ensures ∙ c.in_ok-attributes.ensures.numbers) c.in_ok-attributes.ensures.parts (c.as_slice-2.ensures ∙ c.in_ok-groups.ensures.numbers) c.in_ok-groups.ensures.parts;
}

pub returns-clause-parts : goal.returns-clause-parts
returns-clause-parts c = attributes-added c.args.source.now c.args.types.now c.args.parts.now c.add_attributes.new.parts c.number_attr_groups.new.parts c.as_slice.result.now c.as_slice-2.result.now c.requires.none
    (c.as_slice.ensures ∙ c.in_ok-attributes.ensures.numbers) c.in_ok-attributes.ensures.parts (c.as_slice-2.ensures ∙ c.in_ok-groups.ensures.numbers) c.in_ok-groups.ensures.parts
    c.build_attr_groups.new.parts c.in_ok-build_attr_groups.ensures.groups
