-- What complex types refer to is there.
use Rattle.std.proofs.Common.{◌≡◌, ℕ, suc, ◌<◌, List, [], ◌∷◌, Bool, true, false, Option, None, Some, length, refl, arith}
use Rattle.std.specs.Prelude.{All, IfSome, slice_get, if◌then◌else◌}
use Rattle.std.specs.Option.{option_map, unwrap_or}
use Rattle.std.proofs.lemmas.List.{length-append}
use Rattle.std.proofs.lemmas.List.Elements.{All-nil, All-append}
use Rattle.std.proofs.lemmas.Option.{none-some}
use Rattle.xs_components.specs.Tables.{Tables}
use Rattle.xs_components.specs.declared.common.TypeId.{TypeId}
use Rattle.xs_components.specs.declared.common.TypeId.TheVariants.{AnyType}
use Rattle.xs_components.specs.declared.complex.ComplexType.{ComplexType}
use Rattle.component_references.specs.Heights.{IsType}
use Rattle.component_references.specs.References.{effective_of}
use Rattle.representations.specs.declared.parts.ComplexTypeRepresentation.{ComplexTypeRepresentation}
use Rattle.representations.specs.declared.parts.Represented.{Represented}
use Rattle.representations.specs.declared.parts.Represented.TheVariants as forms
use Rattle.representations.specs.declared.parts.Representation.{Representation}
use Rattle.representations.specs.declared.parts.TypeName.{TypeName}
use Rattle.representations.specs.declared.source.Source.{Source}
use Rattle.set_representations.specs.Numbers.{number_at}
use Rattle.build_types.specs.Numbers.{complexes_in}
use Rattle.build_types.specs.Types.{type_at, meant_type}
use Rattle.build_components.specs.Contents.{is_empty_in, explicit_at, explicit_content, particle_place, effective_content, has_simple_content, holder}
use Rattle.build_components.specs.Complexes.{base_by, simple_content, complex_content, complex_type, complexes_by, complexes_from}
use Rattle.build_components.specs.There.{own_type}
use Rattle.build_components.proofs.ListLaws.{all-one}
use Rattle.build_components.proofs.ThereLaws.{AreBelow, if-some, either-below}
use Rattle.build_components.proofs.TypeLaws.{complexes_total, meant-there, own-there}
use Rattle.build_components.proofs.AttributeLaws.{uses-there, referred-there}

module _ (source : Source) (ids : List TypeId) (attributes groups particles : List (Option ℕ)) where
  complex-one : (form : Represented) (place : ℕ) (rep : Representation) → length (complexes_by source ids attributes groups particles form place rep) ≡ complexes_in form
  complex-one (forms.ComplexType head) place rep = refl
  complex-one _ place rep = refl

  -- as many as are represented
  pub complexes-all : (place : ℕ) (reps : List Representation) → length (complexes_from source ids attributes groups particles place reps) ≡ complexes_total reps
  complexes-all place [] = refl
  complexes-all place (rep ∷ reps) =
      omega (
        arith,
        length-append (complexes_by source ids attributes groups particles rep.form place rep) (complexes_from source ids attributes groups particles (suc place) reps),
        complex-one rep.form place rep,
        complexes-all (suc place) reps,
      )

  -- what is true of each complex type that is represented is true of each part
  module _ (P : ComplexType → Type 0)
      (one : (place : ℕ) (head : ComplexTypeRepresentation) (rep held : Representation) → P (complex_type source ids attributes groups particles place head rep held))
    where
      form-has : (form : Represented) (place : ℕ) (rep : Representation) → All P (complexes_by source ids attributes groups particles form place rep)
      form-has (forms.ComplexType head) place rep =
          all-one P (complex_type source ids attributes groups particles place head rep (holder source.reps.now rep)) (one place head rep (holder source.reps.now rep))
      form-has _ place rep = All-nil P

      pub complexes-have : (place : ℕ) (reps : List Representation) → All P (complexes_from source ids attributes groups particles place reps)
      complexes-have place [] = All-nil P
      complexes-have place (rep ∷ reps) =
          All-append P (complexes_by source ids attributes groups particles rep.form place rep) (complexes_from source ids attributes groups particles (suc place) reps)
          (form-has rep.form place rep) (complexes-have (suc place) reps)

  module _ (t : Tables) (there : (place : ℕ) → IsType t (type_at ids place)) where
    given-base : (base : Option TypeName) → IsType t (unwrap_or (option_map (meant_type source ids) base) AnyType)
    given-base None = tt
    given-base (Some name) = meant-there t source ids there name

    base-there : (form : Represented) → IsType t (base_by source ids form)
    base-there (forms.Derivation by_extension base) = given-base base
    base-there _ = tt

    pub bases-there : (place : ℕ) (reps : List Representation) → All (λ (part : ComplexType). IsType t part.base) (complexes_from source ids attributes groups particles place reps)
    bases-there place reps = complexes-have (λ (part : ComplexType). IsType t part.base) (λ place head rep held. base-there held.form) place reps

    own-has : (is_simple : Bool) (place : ℕ) (head : ComplexTypeRepresentation) (rep : Representation)
        → IfSome (own_type (if is_simple then simple_content source ids attributes groups particles (holder source.reps.now rep).members else complex_content source ids attributes groups particles place head rep)) (IsType t)
    own-has true place head rep = own-there t source ids there (holder source.reps.now rep).members
    own-has false place head rep = tt

    pub owns-there : (place : ℕ) (reps : List Representation) → All (λ (part : ComplexType). IfSome (own_type part.content) (IsType t)) (complexes_from source ids attributes groups particles place reps)
    owns-there place reps =
        complexes-have (λ (part : ComplexType). IfSome (own_type part.content) (IsType t)) (λ place head rep held. own-has (has_simple_content source.reps.now rep.members) place head rep) place reps

  module _ (count : ℕ) (below : AreBelow count particles) where
    unless-empty : (empty : Bool) (place n : ℕ) → (if empty then None else number_at particles place) ≡ Some n → n < count
    unless-empty true place n is = absurd (none-some n is)
    unless-empty false place n is = below place n is

    explicit-below : (found : Option ℕ) (n : ℕ) → explicit_at source.reps.now particles found ≡ Some n → n < count
    explicit-below None n is = absurd (none-some n is)
    explicit-below (Some place) n is = unless-empty (is_empty_in source.reps.now particles (slice_get source.reps.now place)) place n is

    content-below : (is_simple : Bool) (place : ℕ) (head : ComplexTypeRepresentation) (rep : Representation)
        → IfSome (effective_of (if is_simple then simple_content source ids attributes groups particles (holder source.reps.now rep).members else complex_content source ids attributes groups particles place head rep)) (λ n. n < count)
    content-below true place head rep = tt
    content-below false place head rep =
        if-some (λ n. n < count) (effective_content source.reps.now particles place rep)
        (either-below count particles below (number_at particles place) (explicit_content source.reps.now particles (holder source.reps.now rep).members) (below place)
        (explicit-below (particle_place source.reps.now particles (holder source.reps.now rep).members)))

    pub effectives-there : (place : ℕ) (reps : List Representation) → All (λ (part : ComplexType). IfSome (effective_of part.content) (λ n. n < count)) (complexes_from source ids attributes groups particles place reps)
    effectives-there place reps =
        complexes-have (λ (part : ComplexType). IfSome (effective_of part.content) (λ n. n < count)) (λ place head rep held. content-below (has_simple_content source.reps.now rep.members) place head rep) place reps

  pub type-uses-there : (count : ℕ) → AreBelow count attributes → (place : ℕ) (reps : List Representation)
      → All (λ (part : ComplexType). All (λ used. used.attribute < count) part.uses) (complexes_from source ids attributes groups particles place reps)
  type-uses-there count below place reps =
      complexes-have (λ (part : ComplexType). All (λ used. used.attribute < count) part.uses) (λ place head rep held. uses-there source attributes count below held.members) place reps

  pub type-groups-there : (count : ℕ) → AreBelow count groups → (place : ℕ) (reps : List Representation)
      → All (λ (part : ComplexType). All (λ n. n < count) part.groups) (complexes_from source ids attributes groups particles place reps)
  type-groups-there count below place reps =
      complexes-have (λ (part : ComplexType). All (λ n. n < count) part.groups) (λ place head rep held. referred-there source groups count below held.members) place reps
