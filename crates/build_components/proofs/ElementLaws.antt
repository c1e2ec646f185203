-- The types, identity constraints and heads of elements are there.
use Rattle.std.proofs.Common.{◌≡◌, ℕ, ◌<◌, List, Option, None, Some}
use Rattle.std.specs.Prelude.{All, IfSome}
use Rattle.std.specs.List.{flat_map}
use Rattle.std.proofs.lemmas.List.Elements.{All-nil}
use Rattle.std.proofs.lemmas.Option.{none-some}
use Rattle.xs_components.specs.Tables.{Tables}
use Rattle.xs_components.specs.declared.common.TypeId.{TypeId}
use Rattle.xs_components.specs.declared.element.ElementDecl.{ElementDecl}
use Rattle.component_references.specs.Heights.{IsType}
use Rattle.representations.specs.declared.parts.ElementRepresentation.{ElementRepresentation}
use Rattle.representations.specs.declared.parts.Represented.{Represented}
use Rattle.representations.specs.declared.parts.Represented.TheVariants as forms
use Rattle.representations.specs.declared.parts.Representation.{Representation}
use Rattle.representations.specs.declared.source.Source.{Source}
use Rattle.build_types.specs.Types.{type_at}
use Rattle.build_components.specs.Elements.{declaration, declared, elements_by, elements_of, head_of, named_head}
use Rattle.build_components.specs.declared.constraints.ConstraintNumbers.{ConstraintNumbers}
use Rattle.build_components.proofs.ListLaws.{all-flat_map, all-one}
use Rattle.build_components.proofs.ThereLaws.{AreBelow, if-some, referred-below}
use Rattle.build_components.proofs.TypeLaws.{named-there}

module _ (source : Source) (ids : List TypeId) (constraints : ConstraintNumbers) (numbers : List (Option ℕ)) where
  -- what is true of each element that is represented is true of each part
  module _ (P : ElementDecl → Type 0)
      (one : (element : ElementRepresentation) (rep : Representation) (name : ℕ) → P (declaration source ids constraints element rep name (head_of source numbers rep)))
    where
      declared-have : (element : ElementRepresentation) (rep : Representation) (name : Option ℕ) → All P (declared source ids constraints element rep name (head_of source numbers rep))
      declared-have element rep None = All-nil P
      declared-have element rep (Some name) = all-one P (declaration source ids constraints element rep name (head_of source numbers rep)) (one element rep name)

      form-have : (form : Represented) (rep : Representation) → All P (elements_by source ids constraints form rep (head_of source numbers rep))
      form-have (forms.Element element) rep = declared-have element rep element.name
      form-have _ rep = All-nil P

      pub elements-have : (reps : List Representation) → All P (flat_map (elements_of source ids constraints numbers) reps)
      elements-have reps = all-flat_map P (elements_of source ids constraints numbers) (λ rep. form-have rep.form rep) reps

  module _ (count : ℕ) (below : AreBelow count numbers) where
    abbrev pub HasHead : ElementDecl → Type 0
    HasHead part = IfSome part.head (λ n. n < count)

    head-below : (form : Represented) (n : ℕ) → named_head source numbers form ≡ Some n → n < count
    head-below (forms.Element element) n is = referred-below count numbers below source.spaces.now.elements element.head n is
    head-below _ n is = absurd (none-some n is)

    pub heads-there : (reps : List Representation) → All HasHead (flat_map (elements_of source ids constraints numbers) reps)
    heads-there reps = elements-have HasHead (λ element rep name. if-some (λ n. n < count) (head_of source numbers rep) (head-below rep.form)) reps

  module _ (t : Tables) (there : (place : ℕ) → IsType t (type_at ids place)) where
    abbrev pub HasType : ElementDecl → Type 0
    HasType part = IfSome part.of (IsType t)

    pub element-types-there : (reps : List Representation) → All HasType (flat_map (elements_of source ids constraints numbers) reps)
    element-types-there reps = elements-have HasType (λ element rep name. named-there t source ids there element.of rep.members) reps
