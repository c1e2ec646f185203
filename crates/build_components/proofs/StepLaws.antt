-- What each step of building comes to.
use Rattle.std.proofs.Common.{◌≡◌, ℕ, List, Option, length, refl, ap, ◌∙◌}
use Rattle.std.specs.List.{flat_map}
use Rattle.xs_components.specs.Table.{TableOf, no_parts}
use Rattle.xs_components.specs.Tables.{Tables}
use Rattle.xs_components.specs.declared.attr_group.AttrGroupDef.{AttrGroupDef}
use Rattle.xs_components.specs.declared.common.Place.{Place}
use Rattle.xs_components.specs.declared.common.TypeId.{TypeId}
use Rattle.representations.specs.declared.parts.Represented.{Represented}
use Rattle.representations.specs.declared.parts.Represented.TheVariants as forms
use Rattle.representations.specs.declared.source.Source.{Source}
use Rattle.set_representations.specs.Numbers.{numbers_of, with_parts}
use Rattle.set_representations.proofs.NumberLaws.{same_length, same_values}
use Rattle.build_types.specs.Declarations.{attributes_of}
use Rattle.build_types.specs.Groups as attr
use Rattle.build_components.specs.Constraints as constraints
use Rattle.build_components.specs.Elements as elements
use Rattle.build_components.specs.declared.constraints.ConstraintNumbers.{ConstraintNumbers}
use Rattle.build_components.specs.Models.{particles_for, with_models}
use Rattle.build_components.specs.inside.Steps as steps
use Rattle.build_components.specs.declared.steps.AttributeNumbers.{AttributeNumbers}

-- as many attribute groups as have places
module _ (source : Source) (attributes numbers : List (Option ℕ)) where
  attr-group-one : (form : Represented) (at : Place) (members : List ℕ) → length (attr.empty_groups_by form at) ≡ length (attr.attr_groups_by source attributes numbers form at members)
  attr-group-one (forms.AttributeGroup name) at members = refl
  attr-group-one _ at members = refl

  pub attr-groups-many : length (flat_map attr.empty_groups source.reps.now) ≡ length (attr.attr_groups source attributes numbers)
  attr-groups-many = same_length attr.empty_groups (attr.attr_groups_of source attributes numbers) (λ rep. attr-group-one rep.form rep.at rep.members) source.reps.now

abbrev attribute_numbers_of : List (Option ℕ) → List (Option ℕ) → AttributeNumbers
attribute_numbers_of attributes groups = record { attributes = attributes; groups = groups }

-- attributes and attribute groups
module _ (source : Source) (types : List TypeId) (p0 p1 p2 : Tables) (attributes groups : List (Option ℕ))
    (none : p0.attr_groups ≡ no_parts)
    (numbered : attributes ≡ numbers_of (attributes_of source types) (length p0.attributes.parts) source.reps.now)
    (step1 : p1 ≡ record p0 { attributes = with_parts p0.attributes (flat_map (attributes_of source types) source.reps.now) })
    (grouped : groups ≡ numbers_of attr.empty_groups (length p1.attr_groups.parts) source.reps.now)
    (step2 : p2 ≡ record p1 { attr_groups = with_parts p1.attr_groups (flat_map attr.empty_groups source.reps.now) })
  where
    groups-are : groups ≡ numbers_of attr.empty_groups 0 source.reps.now
    groups-are = grouped ∙ ap (λ (t : TableOf AttrGroupDef). numbers_of attr.empty_groups (length t.parts) source.reps.now) (ap (λ (p : Tables). p.attr_groups) step1 ∙ none)

    pub attribute-numbers-are : attribute_numbers_of attributes groups ≡ steps.attribute_numbers source types p0
    attribute-numbers-are =
        ap (λ (l : List (Option ℕ)). attribute_numbers_of l groups) numbered
        ∙ ap (λ (l : List (Option ℕ)). attribute_numbers_of (numbers_of (attributes_of source types) (length p0.attributes.parts) source.reps.now) l) groups-are

    -- with a table of attribute groups
    abbrev with_groups : TableOf AttrGroupDef → Tables
    with_groups table = record p0 { attributes = with_parts p0.attributes (flat_map (attributes_of source types) source.reps.now); attr_groups = table }

    two-is : p2 ≡ with_groups (with_parts no_parts (flat_map attr.empty_groups source.reps.now))
    two-is = step2
        ∙ ap (λ (p : Tables). record p { attr_groups = with_parts p.attr_groups (flat_map attr.empty_groups source.reps.now) }) step1
        ∙ ap (λ (t : TableOf AttrGroupDef). with_groups (with_parts t (flat_map attr.empty_groups source.reps.now))) none

    -- as many attribute groups as there are places
    pub groups-needed : length p2.attr_groups.parts ≡ length (attr.attr_groups source attributes groups)
    groups-needed = ap (λ (p : Tables). length p.attr_groups.parts) two-is ∙ attr-groups-many source attributes groups

    pub attributes-added : (p3 : Tables) → p3 ≡ record p2 { attr_groups = record p2.attr_groups { parts = attr.attr_groups source attributes groups } } → p3 ≡ steps.with_attributes source types p0
    attributes-added p3 step3 = step3
        ∙ ap (λ (p : Tables). record p { attr_groups = record p.attr_groups { parts = attr.attr_groups source attributes groups } }) two-is
        ∙ ap (λ (ranks : List ℕ). with_groups (record { parts = attr.attr_groups source attributes groups; ranks = ranks }))
        (same_values 0 (flat_map attr.empty_groups source.reps.now) (attr.attr_groups source attributes groups) (attr-groups-many source attributes groups))
        ∙ ap (λ (n : AttributeNumbers). with_groups (with_parts no_parts (attr.attr_groups source n.attributes n.groups))) attribute-numbers-are

-- identity constraints, elements, groups and particles
module _ (source : Source) (types : List TypeId) (p0 p1 p2 : Tables) (numbers : ConstraintNumbers) (known : List (Option ℕ))
    (constrained : numbers ≡ constraints.constraint_numbers source (length p0.constraints.parts))
    (step1 : p1 ≡ record p0 { constraints = with_parts p0.constraints (constraints.constraints source (length p0.constraints.parts)) })
    (declared : known ≡ elements.element_numbers source types numbers (length p1.elements.parts))
    (step2 : p2 ≡ record p1 { elements = with_parts p1.elements (elements.elements source types numbers (length p1.elements.parts)) })
  where
    known-are : known ≡ steps.known_elements source types p0
    known-are = declared
        ∙ ap (λ (p : Tables). elements.element_numbers source types numbers (length p.elements.parts)) step1
        ∙ ap (λ (n : ConstraintNumbers). elements.element_numbers source types n (length p0.elements.parts)) constrained

    -- with elements by these numbers of constraints
    abbrev with_declared : ConstraintNumbers → Tables
    with_declared n = record p0 {
      constraints = with_parts p0.constraints (constraints.constraints source (length p0.constraints.parts));
      elements = with_parts p0.elements (elements.elements source types n (length p0.elements.parts));
    }

    abbrev two : Tables
    two = with_declared (constraints.constraint_numbers source (length p0.constraints.parts))

    declared-are : p2 ≡ two
    declared-are = step2
        ∙ ap (λ (p : Tables). record p { elements = with_parts p.elements (elements.elements source types numbers (length p.elements.parts)) }) step1
        ∙ ap (λ (n : ConstraintNumbers). with_declared n) constrained

    pub particles-numbered : (particles : List (Option ℕ)) → particles ≡ (particles_for source known p2).numbers → particles ≡ steps.known_particles source types p0
    particles-numbered particles is = is
        ∙ ap (λ (p : Tables). (particles_for source known p).numbers) declared-are
        ∙ ap (λ (l : List (Option ℕ)). (particles_for source l two).numbers) known-are

    pub elements-added : (p3 : Tables) → p3 ≡ with_models source known p2 → p3 ≡ steps.with_elements source types p0
    elements-added p3 step3 = step3
        ∙ ap (λ (p : Tables). with_models source known p) declared-are
        ∙ ap (λ (l : List (Option ℕ)). with_models source l two) known-are
