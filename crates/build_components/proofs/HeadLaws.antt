-- Elements with their heads are the elements without, changed.
use Rattle.std.proofs.Common.{inl, inr, ℕ, List, Option, None, Some, refl}
use Rattle.xs_components.specs.Changes.{with_head}
use Rattle.xs_components.specs.declared.common.TypeId.{TypeId}
use Rattle.representations.specs.declared.parts.ElementRepresentation.{ElementRepresentation}
use Rattle.representations.specs.declared.parts.Represented.{Represented}
use Rattle.representations.specs.declared.parts.Represented.TheVariants as forms
use Rattle.representations.specs.declared.parts.Representation.{Representation}
use Rattle.representations.specs.declared.source.Source.{Source}
use Rattle.set_representations.proofs.ChangeLaws.{IsOneChanged}
use Rattle.build_components.specs.Elements.{declaration, declared, elements_by, headless, elements_of, head_of}
use Rattle.build_components.specs.declared.constraints.ConstraintNumbers.{ConstraintNumbers}

module _ (source : Source) (ids : List TypeId) (constraints : ConstraintNumbers) where
  declared-one : (element : ElementRepresentation) (rep : Representation) (name head : Option ℕ)
      → IsOneChanged with_head head (declared source ids constraints element rep name None) (declared source ids constraints element rep name head)
  declared-one element rep None head = inl (refl, refl)
  declared-one element rep (Some name) None = inr (declaration source ids constraints element rep name None, refl, refl)
  declared-one element rep (Some name) (Some head) = inr (declaration source ids constraints element rep name None, refl, refl)

  form-one : (form : Represented) (rep : Representation) (head : Option ℕ)
      → IsOneChanged with_head head (elements_by source ids constraints form rep None) (elements_by source ids constraints form rep head)
  form-one (forms.Element element) rep head = declared-one element rep element.name head
  form-one _ rep head = inl (refl, refl)

  pub heads_one : (elements : List (Option ℕ)) (rep : Representation)
      → IsOneChanged with_head (head_of source elements rep) (headless source ids constraints rep) (elements_of source ids constraints elements rep)
  heads_one elements rep = form-one rep.form rep (head_of source elements rep)
