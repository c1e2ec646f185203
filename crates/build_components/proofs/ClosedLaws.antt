-- Whatever the components of a schema set refer to is there.
use Rattle.std.proofs.Common.{◌≡◌, ℕ, ◌<◌, List, [], ◌∷◌, Option, None, length, refl, sym, subst, arith}
use Rattle.std.specs.Prelude.{All, IfSome}
use Rattle.std.specs.List.{flat_map}
use Rattle.std.proofs.lemmas.List.{length-append}
use Rattle.std.proofs.lemmas.List.Elements.{All-nil}
use Rattle.xs_components.specs.Changes.{with_particle, with_head}
use Rattle.xs_components.specs.Tables.{Tables}
use Rattle.xs_components.specs.declared.common.Place.{Place}
use Rattle.xs_components.specs.declared.common.TypeId.{TypeId}
use Rattle.xs_components.specs.declared.attribute.AttributeDecl.{AttributeDecl}
use Rattle.xs_components.specs.declared.attr_group.AttrGroupDef.{AttrGroupDef}
use Rattle.xs_components.specs.declared.complex.ComplexType.{ComplexType}
use Rattle.xs_components.specs.declared.element.ElementDecl.{ElementDecl}
use Rattle.xs_components.specs.declared.group.GroupDef.{GroupDef}
use Rattle.xs_components.specs.declared.particle.Particle.{Particle}
use Rattle.component_references.specs.Heights.{IsType}
use Rattle.component_references.specs.References.{IsClosed, effective_of}
use Rattle.representations.specs.declared.parts.Represented.{Represented}
use Rattle.representations.specs.declared.parts.Represented.TheVariants as forms
use Rattle.representations.specs.declared.parts.Representation.{Representation}
use Rattle.representations.specs.declared.source.Source.{Source}
use Rattle.set_representations.proofs.NumberLaws.{numbers_below, same_length}
use Rattle.set_representations.proofs.ChangeLaws.{one_length}
use Rattle.build_types.specs.Types.{type_at}
use Rattle.build_types.specs.SimpleTypes as simple
use Rattle.build_types.specs.Numbers.{simples_in}
use Rattle.build_types.specs.Declarations.{attributes_of}
use Rattle.build_types.specs.Groups as attr
use Rattle.build_components.specs.Constraints.{constraints as all_constraints}
use Rattle.build_components.specs.Elements as elements
use Rattle.build_components.proofs.HeadLaws.{heads_one}
use Rattle.build_components.specs.Groups as models
use Rattle.build_components.proofs.GroupLaws.{groups_one}
use Rattle.build_components.specs.Built as built
use Rattle.build_components.proofs.StepLaws.{attr-groups-many}
use Rattle.build_components.specs.There.{AreThere, own_type}
use Rattle.build_components.proofs.ListLaws.{all-flat_map, all-map, all-one, all-at}
use Rattle.build_components.proofs.ThereLaws.{AreBelow, if-some, first-below}
use Rattle.build_components.proofs.TypeLaws.{simples_total, types-there, simples-there, RefersWell}
use Rattle.build_components.proofs.AttributeLaws.{attributes-there, uses-there, referred-there, attr-groups-have}
use Rattle.build_components.proofs.ConstraintLaws.{HasKey, keys-there, keys-below, constraints-there}
use Rattle.build_components.proofs.ElementLaws.{HasHead, HasType, elements-have, heads-there, element-types-there}
use Rattle.build_components.proofs.ParticleLaws.{NamesGroup, NamesElement, particles-below, particles-held, groups-named, elements-named}
use Rattle.build_components.proofs.ComplexLaws.{complexes-all, bases-there, owns-there, effectives-there, type-uses-there, type-groups-there}

-- as many simple types as are represented
module _ (source : Source) (ids : List TypeId) where
  simple-one : (form : Represented) (at : Place) (members : List ℕ) → length (simple.simples_by source ids form at members) ≡ simples_in form
  simple-one (forms.SimpleType name finals) at members = refl
  simple-one _ at members = refl

  pub simples-all : (reps : List Representation) → length (flat_map (simple.simples_of source ids) reps) ≡ simples_total reps
  simples-all [] = refl
  simples-all (rep ∷ reps) =
      omega (arith, length-append (simple.simples_of source ids rep) (flat_map (simple.simples_of source ids) reps), simple-one rep.form rep.at rep.members, simples-all reps)

-- particles of groups
module _ (particles : List (Option ℕ)) (count : ℕ) (below : AreBelow count particles) where
  abbrev HasParticle : GroupDef → Type 0
  HasParticle part = IfSome part.particle (λ n. n < count)

  group-has : (form : Represented) (at : Place) (particle : Option ℕ) → IfSome particle (λ n. n < count) → All HasParticle (models.groups_by form at particle)
  group-has (forms.Group name) at particle has = all-one HasParticle (record { name = name; at = at; particle = particle }) has
  group-has _ at particle has = All-nil HasParticle

  pub groups-there : (reps : List Representation) → All HasParticle (models.groups particles reps)
  groups-there reps =
      all-flat_map HasParticle (models.groups_of particles)
      (λ rep. group-has rep.form rep.at (models.particle_of particles rep) (if-some (λ n. n < count) (models.particle_of particles rep) (first-below count particles below rep.members))) reps

-- the numbers of components that are built are numbers of parts
module _ (source : Source) where
  abbrev reps : List Representation
  reps = source.reps.now

  abbrev all : Tables
  all = built.built source

  types-below : (place : ℕ) → IsType all (type_at (built.types source) place)
  types-below place =
      types-there all 0 0 reps (omega (arith, simples-all source (built.types source) reps))
      (omega (arith, complexes-all source (built.types source) (built.attribute_numbers source) (built.attr_group_numbers source) (built.particles source).numbers 0 reps)) place

  elements-below : AreBelow (length all.elements.parts) (built.element_numbers source)
  elements-below place n is =
      let ids = built.types source in
      let constraints = built.constraint_numbers source in
      let numbers = built.element_numbers source in
      let plain = elements.headless source ids constraints in
      let whole = elements.elements_of source ids constraints numbers in
      omega (
        arith,
        numbers_below plain 0 reps place n is,
        same_length plain whole (one_length with_head (elements.head_of source numbers) plain whole (heads_one source ids constraints numbers)) reps,
      )

  attributes-below : AreBelow (length all.attributes.parts) (built.attribute_numbers source)
  attributes-below place n is = omega (arith, numbers_below (attributes_of source (built.types source)) 0 reps place n is)

  attr-groups-below : AreBelow (length all.attr_groups.parts) (built.attr_group_numbers source)
  attr-groups-below place n is =
      omega (arith, numbers_below attr.empty_groups 0 reps place n is, attr-groups-many source (built.attribute_numbers source) (built.attr_group_numbers source))

  groups-below : AreBelow (length all.groups.parts) (built.group_numbers source)
  groups-below place n is =
      let numbers = (built.particles source).numbers in
      omega (
        arith,
        numbers_below models.bare_groups 0 reps place n is,
        same_length models.bare_groups (models.groups_of numbers) (one_length with_particle (models.particle_of numbers) models.bare_groups (models.groups_of numbers) (groups_one numbers)) reps,
      )

  terms-below : AreBelow (length all.particles.parts) (built.particles source).numbers
  terms-below = particles-below source (built.element_numbers source) (built.group_numbers source) 0 reps

  built-closed : IsClosed all
  built-closed =
      let ids = built.types source in
      let attributes = built.attribute_numbers source in
      let attr_groups = built.attr_group_numbers source in
      let constraints = built.constraint_numbers source in
      let element_numbers = built.element_numbers source in
      let group_numbers = built.group_numbers source in
      let numbers = (built.particles source).numbers in
      let count = length all.particles.parts in
      record {
        simples = all-at (RefersWell all source ids types-below) (simple.simple_types source ids) (simples-there all source ids types-below);
        complexes = all-at (λ (part : ComplexType). IsType all part.base) (built.complex_types source) (bases-there source ids attributes attr_groups numbers all types-below 0 reps);
        elements = all-at (HasHead source ids constraints element_numbers (length all.elements.parts) elements-below) (elements.elements source ids constraints 0)
            (heads-there source ids constraints element_numbers (length all.elements.parts) elements-below reps);
        groups = all-at (λ (part : GroupDef). IfSome part.particle (λ n. n < count)) (models.groups numbers reps) (groups-there numbers count terms-below reps);
        attr_groups = all-at (λ (part : AttrGroupDef). All (λ n. n < length all.attr_groups.parts) part.groups) (built.attr_groups source)
            (attr-groups-have source attributes attr_groups (λ (part : AttrGroupDef). All (λ n. n < length all.attr_groups.parts) part.groups)
            (λ name at members. referred-there source attr_groups (length all.attr_groups.parts) attr-groups-below members));
        effectives = all-at (λ (part : ComplexType). IfSome (effective_of part.content) (λ n. n < count)) (built.complex_types source) (effectives-there source ids attributes attr_groups numbers count terms-below 0 reps);
        particles = particles-held source element_numbers group_numbers 0 reps;
        to_groups = all-at (λ (part : Particle). NamesGroup source element_numbers group_numbers (length all.groups.parts) part.term) (built.particles source).parts
            (groups-named source element_numbers group_numbers (length all.groups.parts) groups-below 0 reps);
      }

  built-there : AreThere all
  built-there =
      let ids = built.types source in
      let attributes = built.attribute_numbers source in
      let attr_groups = built.attr_group_numbers source in
      let constraints = built.constraint_numbers source in
      let element_numbers = built.element_numbers source in
      let group_numbers = built.group_numbers source in
      let numbers = (built.particles source).numbers in
      record {
        element_types = all-at (HasType source ids constraints element_numbers all types-below) (elements.elements source ids constraints 0)
            (element-types-there source ids constraints element_numbers all types-below reps);
        element_constraints = all-at (λ (part : ElementDecl). All (λ n. n < length all.constraints.parts) part.constraints) (elements.elements source ids constraints 0)
            (elements-have source ids constraints element_numbers (λ (part : ElementDecl). All (λ n. n < length all.constraints.parts) part.constraints)
            (λ element rep name. constraints-there source rep.members) reps);
        attribute_types = all-at (λ (part : AttributeDecl). IsType all part.of) (built.attributes source) (attributes-there all source ids types-below reps);
        type_uses = all-at (λ (part : ComplexType). All (λ used. used.attribute < length all.attributes.parts) part.uses) (built.complex_types source)
            (type-uses-there source ids attributes attr_groups numbers (length all.attributes.parts) attributes-below 0 reps);
        type_groups = all-at (λ (part : ComplexType). All (λ n. n < length all.attr_groups.parts) part.groups) (built.complex_types source)
            (type-groups-there source ids attributes attr_groups numbers (length all.attr_groups.parts) attr-groups-below 0 reps);
        own_types = all-at (λ (part : ComplexType). IfSome (own_type part.content) (IsType all)) (built.complex_types source) (owns-there source ids attributes attr_groups numbers all types-below 0 reps);
        group_uses = all-at (λ (part : AttrGroupDef). All (λ used. used.attribute < length all.attributes.parts) part.uses) (built.attr_groups source)
            (attr-groups-have source attributes attr_groups (λ (part : AttrGroupDef). All (λ used. used.attribute < length all.attributes.parts) part.uses)
            (λ name at members. uses-there source attributes (length all.attributes.parts) attributes-below members));
        to_elements = all-at (λ (part : Particle). NamesElement source element_numbers group_numbers (length all.elements.parts) part.term) (built.particles source).parts
            (elements-named source element_numbers group_numbers (length all.elements.parts) elements-below 0 reps);
        keys = all-at (HasKey source (length all.constraints.parts)) (all_constraints source 0)
            (keys-there source (length all.constraints.parts) constraints.keys (keys-below source));
      }

-- the same of tables that are equal to those that are built
module _ (source : Source) (t : Tables) (is : t ≡ built.built source) where
  pub tables-closed : IsClosed t
  tables-closed = subst IsClosed (sym is) (built-closed source)

  pub tables-there : AreThere t
  tables-there = subst AreThere (sym is) (built-there source)

  pub contents-none : All (λ content. content ≡ None) t.contents
  contents-none =
      subst (λ (p : Tables). All (λ content. content ≡ None) p.contents) (sym is)
      (all-map (λ (content : Option ℕ). content ≡ None) (λ (part : ComplexType). None) (λ part. refl) (built.complex_types source))
