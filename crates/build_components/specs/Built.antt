-- The components of a schema set (Structures 3.15.1), by their representations. A component's number is the count of those of
-- its kind before it.
use Rattle.std.specs.Prelude.{ℕ, List, Option, None, map}
use Rattle.std.specs.List.{flat_map}
use Rattle.xs_components.specs.Table.{no_parts}
use Rattle.xs_components.specs.Tables.{Tables}
use Rattle.xs_components.specs.declared.common.Rules.TheVariants.{V10}
use Rattle.xs_components.specs.declared.common.TypeId.{TypeId}
use Rattle.xs_components.specs.declared.attribute.AttributeDecl.{AttributeDecl}
use Rattle.xs_components.specs.declared.attr_group.AttrGroupDef.{AttrGroupDef}
use Rattle.xs_components.specs.declared.complex.ComplexType.{ComplexType}
use Rattle.representations.specs.declared.source.Source.{Source}
use Rattle.set_representations.specs.Numbers.{numbers_of, with_parts}
use Rattle.build_types.specs.Numbers.{type_ids}
use Rattle.build_types.specs.SimpleTypes as simple
use Rattle.build_types.specs.Declarations.{attributes_of}
use Rattle.build_types.specs.Groups as attr
use Rattle.build_components.specs.Constraints as constraints
use Rattle.build_components.specs.Elements as elements
use Rattle.build_components.specs.Groups as models
use Rattle.build_components.specs.Particles as terms
use Rattle.build_components.specs.Complexes as complex
use Rattle.build_components.specs.declared.constraints.ConstraintNumbers.{ConstraintNumbers}

module _ (source : Source) where
  -- the numbers by place
  abbrev pub types : List TypeId
  types = type_ids 0 0 source.reps.now

  abbrev pub attribute_numbers : List (Option ℕ)
  attribute_numbers = numbers_of (attributes_of source types) 0 source.reps.now

  abbrev pub attr_group_numbers : List (Option ℕ)
  attr_group_numbers = numbers_of attr.empty_groups 0 source.reps.now

  abbrev pub constraint_numbers : ConstraintNumbers
  constraint_numbers = constraints.constraint_numbers source 0

  abbrev pub element_numbers : List (Option ℕ)
  element_numbers = elements.element_numbers source types constraint_numbers 0

  abbrev pub group_numbers : List (Option ℕ)
  group_numbers = models.group_numbers 0 source.reps.now

  -- the particles with their numbers
  abbrev pub particles : terms.Particles
  particles = terms.particles source element_numbers group_numbers 0

  -- the components of each kind that others refer to
  abbrev pub attributes : List AttributeDecl
  attributes = flat_map (attributes_of source types) source.reps.now

  abbrev pub attr_groups : List AttrGroupDef
  attr_groups = attr.attr_groups source attribute_numbers attr_group_numbers

  abbrev pub complex_types : List ComplexType
  complex_types = complex.complex_types source types attribute_numbers attr_group_numbers particles.numbers

  -- all components, each of rank 0
  abbrev pub built : Tables
  built = record {
    rules = V10;
    simples = with_parts no_parts (simple.simple_types source types);
    complexes = with_parts no_parts complex_types;
    contents = map (λ part. None) complex_types;
    elements = with_parts no_parts (elements.elements source types constraint_numbers 0);
    attributes = with_parts no_parts attributes;
    groups = with_parts no_parts (models.groups particles.numbers source.reps.now);
    attr_groups = with_parts no_parts attr_groups;
    constraints = with_parts no_parts (constraints.constraints source 0);
    particles = with_parts no_parts particles.parts;
  }
