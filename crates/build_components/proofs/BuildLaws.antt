-- What the steps of building come to.
use Rattle.std.proofs.Common.{◌≡◌, ℕ, ◌+◌, List, [], ◌∷◌, Option, None, length, map, suc, refl, sym, ap, ◌∙◌, arith}
use Rattle.std.specs.List.{flat_map}
use Rattle.std.proofs.lemmas.List.{length-append}
use Rattle.xs_components.specs.Table.{TableOf, no_parts}
use Rattle.xs_components.specs.Tables.{Tables, no_tables}
use Rattle.xs_components.specs.declared.common.Rules.TheVariants.{V10}
use Rattle.xs_components.specs.declared.attribute.AttributeDecl.{AttributeDecl}
use Rattle.xs_components.specs.declared.attr_group.AttrGroupDef.{AttrGroupDef}
use Rattle.xs_components.specs.declared.constraint.Constraint.{Constraint}
use Rattle.xs_components.specs.declared.element.ElementDecl.{ElementDecl}
use Rattle.xs_components.specs.declared.group.GroupDef.{GroupDef}
use Rattle.xs_components.specs.declared.particle.Particle.{Particle}
use Rattle.xs_components.specs.declared.simple.SimpleType.{SimpleType}
use Rattle.xs_components.specs.declared.common.Place.{Place}
use Rattle.xs_components.specs.declared.common.TypeId.{TypeId}
use Rattle.xs_components.specs.declared.complex.ComplexType.{ComplexType}
use Rattle.representations.specs.declared.parts.Represented.{Represented}
use Rattle.representations.specs.declared.parts.Represented.TheVariants as forms
use Rattle.representations.specs.declared.parts.Representation.{Representation}
use Rattle.representations.specs.declared.source.Source.{Source}
use Rattle.set_representations.specs.Numbers.{with_parts}
use Rattle.set_representations.proofs.NumberLaws.{same_length, same_values}
use Rattle.build_types.specs.Numbers.{type_ids, complexes_in}
use Rattle.build_types.specs.SimpleTypes as simple
use Rattle.build_types.specs.inside.Places.{with_places}
use Rattle.build_components.specs.Constraints as constraints
use Rattle.build_components.specs.Elements as elements
use Rattle.build_components.specs.Groups as models
use Rattle.build_components.specs.Complexes as complex
use Rattle.build_components.specs.Built as built
use Rattle.build_components.specs.inside.Steps as steps
use Rattle.build_components.proofs.TableLaws.{simple_places, simple_places_by, complex_places, complex_places_by, no_contents, with_types, places_are}

module _ (source : Source) (ids : List TypeId) where
  simple-one : (form : Represented) (at : Place) (members : List ℕ) → length (simple_places_by form at) ≡ length (simple.simples_by source ids form at members)
  simple-one (forms.SimpleType name finals) at members = refl
  simple-one _ at members = refl

  pub simples-many : length (flat_map simple_places source.reps.now) ≡ length (simple.simple_types source ids)
  simples-many = same_length simple_places (simple.simples_of source ids) (λ rep. simple-one rep.form rep.at rep.members) source.reps.now

-- as many complex types as are represented
abbrev complexes_total : List Representation → ℕ
complexes_total [] = 0
complexes_total (rep ∷ reps) = complexes_in rep.form + complexes_total reps

complex-place : (form : Represented) (at : Place) → length (complex_places_by form at) ≡ complexes_in form
complex-place (forms.ComplexType head) at = refl
complex-place _ at = refl

complex-places : (reps : List Representation) → length (flat_map complex_places reps) ≡ complexes_total reps
complex-places [] = refl
complex-places (rep ∷ reps) = omega (arith, length-append (complex_places rep) (flat_map complex_places reps), complex-place rep.form rep.at, complex-places reps)

module _ (source : Source) (types : List TypeId) (attributes groups particles : List (Option ℕ)) where
  complex-one : (form : Represented) (place : ℕ) (rep : Representation) → length (complex.complexes_by source types attributes groups particles form place rep) ≡ complexes_in form
  complex-one (forms.ComplexType head) place rep = refl
  complex-one _ place rep = refl

  complexes-all : (place : ℕ) (reps : List Representation) → length (complex.complexes_from source types attributes groups particles place reps) ≡ complexes_total reps
  complexes-all place [] = refl
  complexes-all place (rep ∷ reps) =
      omega (
        arith,
        length-append (complex.complexes_by source types attributes groups particles rep.form place rep) (complex.complexes_from source types attributes groups particles (suc place) reps),
        complex-one rep.form place rep,
        complexes-all (suc place) reps,
      )

  pub complexes-many : length (flat_map complex_places source.reps.now) ≡ length (complex.complex_types source types attributes groups particles)
  complexes-many = complex-places source.reps.now ∙ sym (complexes-all 0 source.reps.now)

-- tables of these parts
abbrev tables_of : TableOf SimpleType → TableOf ComplexType → List (Option ℕ) → TableOf AttributeDecl → TableOf AttrGroupDef → TableOf Constraint → TableOf ElementDecl → TableOf GroupDef → TableOf Particle → Tables
tables_of simples complexes contents attributes attr_groups constraints elements groups particles = record {
  rules = V10;
  simples = simples;
  complexes = complexes;
  contents = contents;
  elements = elements;
  attributes = attributes;
  groups = groups;
  attr_groups = attr_groups;
  constraints = constraints;
  particles = particles;
}

abbrev zeros : {X : Type 0} → List X → List ℕ
zeros {X} parts = map (λ (part : X). 0) parts

module _ (source : Source) where
  abbrev types : List TypeId
  types = built.types source

  abbrev simple_bodies : List SimpleType
  simple_bodies = simple.simple_types source types

  -- the tables after each step
  abbrev after1 : Tables
  after1 = with_types no_tables (flat_map simple_places source.reps.now) (flat_map complex_places source.reps.now)

  abbrev after2 : Tables
  after2 = steps.with_attributes source types after1

  abbrev after3 : Tables
  after3 = steps.with_elements source types after2

  abbrev after4 : Tables
  after4 = steps.with_types source types (built.attribute_numbers source) (built.attr_group_numbers source) (built.particles source).numbers after3

  abbrev ranked : List ℕ → List ℕ → List (Option ℕ) → Tables
  ranked simples complexes contents =
      tables_of (record { parts = simple_bodies; ranks = simples }) (record { parts = built.complex_types source; ranks = complexes }) contents
      (with_parts no_parts (built.attributes source)) (with_parts no_parts (built.attr_groups source)) (with_parts no_parts (constraints.constraints source 0))
      (with_parts no_parts (elements.elements source types (built.constraint_numbers source) 0)) (with_parts no_parts (models.groups (built.particles source).numbers source.reps.now))
      (with_parts no_parts (built.particles source).parts)

  many : length (flat_map complex_places source.reps.now) ≡ length (built.complex_types source)
  many = complexes-many source types (built.attribute_numbers source) (built.attr_group_numbers source) (built.particles source).numbers

  -- the ranks of places are those of parts
  places-ranked : after4 ≡ built.built source
  places-ranked =
      ap (λ (ranks : List ℕ). ranked ranks (zeros (flat_map complex_places source.reps.now)) (no_contents (flat_map complex_places source.reps.now)))
      (same_values 0 (flat_map simple_places source.reps.now) simple_bodies (simples-many source types))
      ∙ ap (λ (ranks : List ℕ). ranked (zeros simple_bodies) ranks (no_contents (flat_map complex_places source.reps.now)))
      (same_values 0 (flat_map complex_places source.reps.now) (built.complex_types source) many)
      ∙ ap (λ (contents : List (Option ℕ)). ranked (zeros simple_bodies) (zeros (built.complex_types source)) contents)
      (same_values None (flat_map complex_places source.reps.now) (built.complex_types source) many)

-- tables from these types and the tables of places
module _ (source : Source) (p0 p1 : Tables) (ids : List TypeId)
    (empty : p0 ≡ no_tables)
    (typed : ids ≡ type_ids (length p0.simples.parts) (length p0.complexes.parts) source.reps.now)
    (step1 : p1 ≡ with_places p0 source.reps.now)
  where
    types-are : ids ≡ built.types source
    types-are = typed ∙ ap (λ (p : Tables). type_ids (length p.simples.parts) (length p.complexes.parts) source.reps.now) empty

    one-is : p1 ≡ after1 source
    one-is = step1 ∙ ap (λ (p : Tables). with_places p source.reps.now) empty ∙ places_are no_tables source.reps.now

    -- there is no attribute group yet
    pub none-yet : p1.attr_groups ≡ no_parts
    none-yet = ap (λ (p : Tables). p.attr_groups) one-is

    module _ (p2 p3 : Tables) (attributes groups particles : List (Option ℕ))
        (numbered : attributes ≡ (steps.attribute_numbers source ids p1).attributes)
        (grouped : groups ≡ (steps.attribute_numbers source ids p1).groups)
        (step2 : p2 ≡ steps.with_attributes source ids p1)
        (modelled : particles ≡ steps.known_particles source ids p2)
        (step3 : p3 ≡ steps.with_elements source ids p2)
      where
        attributes-are : attributes ≡ built.attribute_numbers source
        attributes-are = numbered
            ∙ ap (λ (p : Tables). (steps.attribute_numbers source ids p).attributes) one-is
            ∙ ap (λ (l : List TypeId). (steps.attribute_numbers source l (after1 source)).attributes) types-are

        two-is : p2 ≡ after2 source
        two-is = step2
            ∙ ap (λ (p : Tables). steps.with_attributes source ids p) one-is
            ∙ ap (λ (l : List TypeId). steps.with_attributes source l (after1 source)) types-are

        particles-are : particles ≡ (built.particles source).numbers
        particles-are = modelled
            ∙ ap (λ (p : Tables). steps.known_particles source ids p) two-is
            ∙ ap (λ (l : List TypeId). steps.known_particles source l (after2 source)) types-are

        three-is : p3 ≡ after3 source
        three-is = step3
            ∙ ap (λ (p : Tables). steps.with_elements source ids p) two-is
            ∙ ap (λ (l : List TypeId). steps.with_elements source l (after2 source)) types-are

        -- as many simple types as there are places
        pub simples-needed : length p3.simples.parts ≡ length (simple.simple_types source ids)
        simples-needed = ap (λ (p : Tables). length p.simples.parts) three-is ∙ simples-many source ids

        -- as many complex types as there are places
        pub complexes-needed : length p3.complexes.parts ≡ length (complex.complex_types source ids attributes groups particles)
        complexes-needed = ap (λ (p : Tables). length p.complexes.parts) three-is ∙ complexes-many source ids attributes groups particles

        pub built-is : (p4 : Tables) → p4 ≡ steps.with_types source ids attributes groups particles p3 → p4 ≡ built.built source
        built-is p4 step4 = step4
            ∙ ap (λ (p : Tables). steps.with_types source ids attributes groups particles p) three-is
            ∙ ap (λ (l : List TypeId). steps.with_types source l attributes groups particles (after3 source)) types-are
            ∙ ap (λ (l : List (Option ℕ)). steps.with_types source (built.types source) l groups particles (after3 source)) attributes-are
            ∙ ap (λ (l : List (Option ℕ)). steps.with_types source (built.types source) (built.attribute_numbers source) l particles (after3 source)) grouped
            ∙ ap (λ (l : List (Option ℕ)). steps.with_types source (built.types source) (built.attribute_numbers source) (built.attr_group_numbers source) l (after3 source)) particles-are
            ∙ places-ranked source
