-- Renamed representations are as they were but for names.
use Rattle.std.proofs.Common.{◌≡◌, ℕ, suc, List, [], ◌∷◌, Option, None, Some, map, refl, ap, ◌∙◌}
use Rattle.std.specs.Option.{option_map}
use Rattle.xs_names.specs.Names.{NameTable}
use Rattle.representations.specs.declared.parts.Represented.{Represented}
use Rattle.representations.specs.declared.parts.Represented.TheVariants as forms
use Rattle.representations.specs.declared.parts.Representation.{Representation}
use Rattle.representations.specs.declared.parts.TypeName.{TypeName}
use Rattle.representations.specs.declared.parts.TypeName.TheVariants as types
use Rattle.redefine_names.specs.declared.declared.VersionKind.{VersionKind}
use Rattle.redefine_names.specs.declared.declared.VersionKind.TheVariants as kinds
use Rattle.redefine_names.specs.declared.redirections.Redirection.{Redirection}
use Rattle.redefine_names.specs.Redirections.{meant, meant_type, redirected_by, redirected, redirection_at}
use Rattle.redefine_names.specs.Renamed.{named_by, named, original_name, renamed_as, renamed_from, renamed}
use Rattle.redefine_names.specs.Unnamed.{some_name, some_type, unnamed, unnamed_rep, unnamed_reps}

module _ (r : Redirection) where
  name-alike : (kind : VersionKind) (to : Option ℕ) → option_map some_name (option_map (meant r kind) to) ≡ option_map some_name to
  name-alike kind None = refl
  name-alike kind (Some name) = refl

  type-alike : (of : TypeName) → some_type (meant_type r of) ≡ some_type of
  type-alike types.AnyType = refl
  type-alike (types.Builtin of) = refl
  type-alike (types.Named name) = refl

  given-alike : (of : Option TypeName) → option_map some_type (option_map (meant_type r) of) ≡ option_map some_type of
  given-alike None = refl
  given-alike (Some of) = ap Some (type-alike of)

  types-alike : (members : List TypeName) → map some_type (map (meant_type r) members) ≡ map some_type members
  types-alike [] = refl
  types-alike (member ∷ members) =
      ap (λ (m : TypeName). m ∷ map some_type (map (meant_type r) members)) (type-alike member) ∙ ap (λ (ms : List TypeName). some_type member ∷ ms) (types-alike members)

  redirected-alike : (form : Represented) → unnamed (redirected_by r form) ≡ unnamed form
  redirected-alike (forms.Element element) = ap (λ (of : Option TypeName). forms.Element (record element { of = of })) (given-alike element.of)
  redirected-alike (forms.Attribute attribute) = ap (λ (of : Option TypeName). forms.Attribute (record attribute { of = of })) (given-alike attribute.of)
  redirected-alike (forms.Restriction base) = ap (λ (of : Option TypeName). forms.Restriction of) (given-alike base)
  redirected-alike (forms.ItemType of) = ap (λ (o : Option TypeName). forms.ItemType o) (given-alike of)
  redirected-alike (forms.Union members) = ap (λ (ms : List TypeName). forms.Union ms) (types-alike members)
  redirected-alike (forms.Derivation by_extension base) = ap (λ (of : Option TypeName). forms.Derivation by_extension of) (given-alike base)
  redirected-alike (forms.GroupReference to) = ap (λ (o : Option ℕ). forms.GroupReference o) (name-alike kinds.Group to)
  redirected-alike (forms.AttributeGroupReference to) = ap (λ (o : Option ℕ). forms.AttributeGroupReference o) (name-alike kinds.AttributeGroup to)
  redirected-alike _ = refl

redirected-if-alike : (r : Option Redirection) (form : Represented) → unnamed (redirected r form) ≡ unnamed form
redirected-if-alike None form = refl
redirected-if-alike (Some r) form = redirected-alike r form

named-by-alike : (name : ℕ) (form : Represented) → unnamed (named_by name form) ≡ unnamed form
named-by-alike name (forms.SimpleType own finals) = refl
named-by-alike name (forms.ComplexType head) = refl
named-by-alike name (forms.Group own) = refl
named-by-alike name (forms.AttributeGroup own) = refl
named-by-alike name _ = refl

named-alike : (name : Option ℕ) (form : Represented) → unnamed (named name form) ≡ unnamed form
named-alike None form = refl
named-alike (Some name) form = named-by-alike name form

rep-alike : (name : Option ℕ) (r : Option Redirection) (rep : Representation) → unnamed_rep (renamed_as name r rep) ≡ unnamed_rep rep
rep-alike name r rep = ap (λ (form : Represented). record rep { form = form }) (named-alike name (redirected r rep.form) ∙ redirected-if-alike r rep.form)

module _ (t : NameTable) (reps : List Representation) (originals : List (Option ℕ)) where
  from-alike : (place : ℕ) (some : List Representation) → unnamed_reps (renamed_from t reps originals place some) ≡ unnamed_reps some
  from-alike place [] = refl
  from-alike place (rep ∷ some) =
      ap (λ (x : Representation). x ∷ unnamed_reps (renamed_from t reps originals (suc place) some)) (rep-alike (original_name t reps originals place) (redirection_at t reps originals place) rep)
      ∙ ap (λ (xs : List Representation). unnamed_rep rep ∷ xs) (from-alike (suc place) some)

  pub all-alike : unnamed_reps (renamed t reps originals) ≡ unnamed_reps reps
  all-alike = from-alike 0 reps
