-- The names that representations declare are in the table.
use Rattle.std.proofs.Common.{◌≡◌, ℕ, ◌<◌, List, [], Option, None, Some, length, refl, sym, subst, ◌∙◌, arith}
use Rattle.std.specs.Prelude.{slice_get, IfSome}
use Rattle.std.proofs.lemmas.List.Elements.{All-head}
use Rattle.std.proofs.lemmas.Option.{get_or_from_slice_get, slice_get_within}
use Rattle.xs_names.specs.Names.{NameTable, Grown}
use Rattle.representations.specs.Named.{AreIn, AreNamed, names_of, given_name}
use Rattle.representations.specs.declared.parts.Represented.{Represented}
use Rattle.representations.specs.declared.parts.Represented.TheVariants as forms
use Rattle.representations.specs.declared.parts.Representation.{Representation}
use Rattle.redefine_names.specs.declared.declared.Declared.{Declared}
use Rattle.redefine_names.specs.Components.{declared_type, declared_by, declared_in, declared_at}

module _ (t : NameTable) where
  abbrev IsIn : ℕ → Type 0
  IsIn name = name < length t.names

  type-in : (name : Option ℕ) → AreIn t (given_name name) → IfSome (declared_type name) (λ d. IsIn d.name)
  type-in None h = tt
  type-in (Some name) h = All-head IsIn name [] h

  by-in : (form : Represented) → AreIn t (names_of form) → IfSome (declared_by form) (λ d. IsIn d.name)
  by-in (forms.SimpleType name finals) h = type-in name h
  by-in (forms.ComplexType head) h = type-in head.name h
  by-in (forms.Group name) h = All-head IsIn name [] h
  by-in (forms.AttributeGroup name) h = All-head IsIn name [] h
  by-in _ h = tt

  in-in : (reps : List Representation) (place : ℕ) (rep : Option Representation) → slice_get reps place ≡ rep → AreNamed t reps → IfSome (declared_in rep) (λ d. IsIn d.name)
  in-in reps place None at h = tt
  in-in reps place (Some rep) at h =
      by-in rep.form (subst (λ (r : Representation). AreIn t (names_of r.form)) (get_or_from_slice_get reps place rep rep at) (h place rep (slice_get_within reps place rep at)))

  pub at-in : (reps : List Representation) (place : ℕ) → AreNamed t reps → IfSome (declared_at reps place) (λ d. IsIn d.name)
  at-in reps place h = in-in reps place (slice_get reps place) refl h

  pub declared-in : (reps : List Representation) (place : ℕ) (found : Option Declared) (declared : Declared) → found ≡ declared_at reps place → found ≡ Some declared → AreNamed t reps → declared.name < length t.names
  declared-in reps place found declared is some h = subst (λ (d : Option Declared). IfSome d (λ x. IsIn x.name)) (sym is ∙ some) (at-in reps place h)

-- they stay in a table that grows
pub named-later : (t u : NameTable) (reps : List Representation) → Grown t u → AreNamed t reps → AreNamed u reps
named-later t u reps g h = λ place rep within n name l. omega (arith, h place rep within n name l, g.more_names)
