-- The tables after each step of building.
use Rattle.std.specs.Prelude.{ℕ, List, Option, length}
use Rattle.std.specs.List.{flat_map}
use Rattle.xs_components.specs.Table.{no_parts}
use Rattle.xs_components.specs.Tables.{Tables}
use Rattle.xs_components.specs.declared.common.TypeId.{TypeId}
use Rattle.representations.specs.declared.source.Source.{Source}
use Rattle.set_representations.specs.Numbers.{numbers_of, with_parts}
use Rattle.build_types.specs.SimpleTypes.{simple_types}
use Rattle.build_types.specs.Declarations.{attributes_of}
use Rattle.build_types.specs.Groups.{empty_groups, attr_groups}
use Rattle.build_components.specs.Constraints.{constraints, constraint_numbers}
use Rattle.build_components.specs.Elements.{elements, element_numbers}
use Rattle.build_components.specs.Models.{particles_for, with_models}
use Rattle.build_components.specs.Complexes.{complex_types}
use Rattle.build_components.specs.declared.steps.AttributeNumbers.{AttributeNumbers}

-- where types have these numbers by place
module _ (source : Source) (types : List TypeId) where
  -- the numbers of the attributes and attribute groups that are added to these tables, which have no attribute group
  abbrev pub attribute_numbers : Tables → AttributeNumbers
  attribute_numbers t = record {
    attributes = numbers_of (attributes_of source types) (length t.attributes.parts) source.reps.now;
    groups = numbers_of empty_groups 0 source.reps.now;
  }

  -- the tables with the attributes and attribute groups more
  abbrev pub with_attributes : Tables → Tables
  with_attributes t = record t {
    attributes = with_parts t.attributes (flat_map (attributes_of source types) source.reps.now);
    attr_groups = with_parts no_parts (attr_groups source (attribute_numbers t).attributes (attribute_numbers t).groups);
  }

  -- the numbers of the elements that are added to these tables
  abbrev pub known_elements : Tables → List (Option ℕ)
  known_elements t = element_numbers source types (constraint_numbers source (length t.constraints.parts)) (length t.elements.parts)

  -- the numbers of the particles that are added to these tables
  abbrev pub known_particles : Tables → List (Option ℕ)
  known_particles t = (particles_for source (known_elements t) t).numbers

  -- the tables with the identity constraints, elements, groups and particles more
  abbrev pub with_elements : Tables → Tables
  with_elements t = record (with_models source (known_elements t) t) {
    constraints = with_parts t.constraints (constraints source (length t.constraints.parts));
    elements = with_parts t.elements (elements source types (constraint_numbers source (length t.constraints.parts)) (length t.elements.parts));
  }

  -- the tables with these types in their places
  abbrev pub with_types : List (Option ℕ) → List (Option ℕ) → List (Option ℕ) → Tables → Tables
  with_types attributes groups particles t = record t {
    simples = record t.simples { parts = simple_types source types };
    complexes = record t.complexes { parts = complex_types source types attributes groups particles };
  }
