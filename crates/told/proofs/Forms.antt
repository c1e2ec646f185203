-- The namespaces that wildcards name by their representations.
use Rattle.std.proofs.Common.{◌≡◌, ℕ, suc, ◌+◌, ◌<◌, List, [], ◌∷◌, Option, None, Some, length, map}
use Rattle.std.specs.Prelude.{All, reverse, unwrap_or}
use Rattle.std.proofs.lemmas.List.Elements.{All-nil, All-cons, All-head, All-tail, All-append}
use Rattle.xs_names.specs.Names.{NameTable, absent_space, space_number}
use Rattle.xs_names.proofs.GrownLaws.{within-space_number}
use Rattle.schema_values.specs.declared.spaces.SpaceToken.{SpaceToken}
use Rattle.schema_values.specs.declared.spaces.SpaceToken.TheVariants as tokens
use Rattle.schema_values.specs.declared.spaces.Spaces.{Spaces}
use Rattle.schema_values.specs.declared.spaces.Spaces.TheVariants as spaces
use Rattle.schema_shape.specs.declared.forms.Compositor.TheVariants as compositors
use Rattle.schema_shape.specs.declared.forms.Form.{Form}
use Rattle.schema_shape.specs.declared.forms.Form.TheVariants as forms
use Rattle.schema_shape.specs.declared.forms.IdentityKind.TheVariants as identities
use Rattle.schema_shape.specs.declared.forms.Shape.{Shape}
use Rattle.schema_set.specs.declared.documents.SetDocument.{SetDocument}
use Rattle.representations.specs.declared.naming.Naming.{Naming}
use Rattle.representations.specs.Naming.{space_text, space_in, naming_of}
use Rattle.representations.specs.declared.parts.Representation.{Representation}
use Rattle.representations.specs.declared.parts.Represented.{Represented}
use Rattle.representations.specs.declared.parts.Represented.TheVariants as parts
use Rattle.representations.specs.declared.defaults.Defaults.{Defaults}
use Rattle.representations.specs.Methods.{defaults_of}
use Rattle.representations.specs.ElementForms.{represented}
use Rattle.representations.specs.Wildcards.{token_space, constraint_of}
use Rattle.set_representations.specs.Documents.{representation, representations_from, shapes_of, document_representations, representations_of}
use Rattle.set_representations.specs.Scopes.{openings}
use Rattle.redefine_names.specs.declared.redirections.Redirection.{Redirection}
use Rattle.redefine_names.specs.Redirections.{redirected_by, redirected, redirection_at}
use Rattle.redefine_names.specs.Renamed.{named_by, named, original_name, renamed_as, renamed_from}
use Rattle.content_automaton.specs.Terms.{spaces_in}
use Rattle.kept_next.specs.Spaces.{AreSpacesOf}

module _ (t : NameTable) where
  -- a wildcard names namespaces of the table
  abbrev pub IsSpaced : Represented → Type 0
  IsSpaced (parts.Any wildcard) = AreSpacesOf t (spaces_in wildcard.namespaces)
  IsSpaced _ = Unit {0}

  abbrev pub AreSpaced : List Representation → Type 0
  AreSpaced reps = All (λ (rep : Representation). IsSpaced rep.form) reps

  -- ---- by the forms of documents
  module _ (some : 0 < length t.spaces) where
    known-or-absent : (found : Option ℕ) → ((n : ℕ) → found ≡ Some n → n < length t.spaces) → unwrap_or found absent_space < length t.spaces
    known-or-absent None each = some
    known-or-absent (Some n) each = each n cc

    space-known : (space : Option (List ℕ)) → space_in t space < length t.spaces
    space-known space = known-or-absent (space_number t (space_text space)) (within-space_number t (space_text space))

    module _ (naming : Naming) where
      token-known : (token : SpaceToken) → token_space t naming token < length t.spaces
      token-known tokens.Target = space-known naming.target
      token-known tokens.Local = some
      token-known (tokens.Named space) = space-known (Some space)

      tokens-known : (listed : List SpaceToken) → AreSpacesOf t (map (token_space t naming) listed)
      tokens-known [] = All-nil (λ (n : ℕ). n < length t.spaces)
      tokens-known (token ∷ more) = All-cons (λ (n : ℕ). n < length t.spaces) (token_space t naming token) (map (token_space t naming) more) (token-known token) (tokens-known more)

      constraint-known : (of : Spaces) → AreSpacesOf t (spaces_in (constraint_of t naming of))
      constraint-known spaces.Any = All-nil (λ (n : ℕ). n < length t.spaces)
      constraint-known spaces.Other =
          All-cons (λ (n : ℕ). n < length t.spaces) (space_in t naming.target) (absent_space ∷ []) (space-known naming.target)
          (All-cons (λ (n : ℕ). n < length t.spaces) absent_space [] some (All-nil (λ (n : ℕ). n < length t.spaces)))
      constraint-known (spaces.These listed) = tokens-known listed

      module _ (defaults : Defaults) where
        form-spaced : (form : Form) → IsSpaced (represented t naming defaults form)
        form-spaced (forms.Any wildcard occurs) = constraint-known wildcard.spaces
        form-spaced (forms.Identity identities.Unique name refer) = tt
        form-spaced (forms.Identity identities.Key name refer) = tt
        form-spaced (forms.Identity identities.Keyref name refer) = tt
        form-spaced (forms.ModelGroup compositors.All occurs) = tt
        form-spaced (forms.ModelGroup compositors.Choice occurs) = tt
        form-spaced (forms.ModelGroup compositors.Sequence occurs) = tt
        form-spaced _ = tt

        module _ (document first : ℕ) where
          from-spaced : (before : List Shape) (place : ℕ) (shapes : List Shape) → AreSpaced (representations_from t naming defaults document first before place shapes)
          from-spaced before place [] = All-nil (λ (rep : Representation). IsSpaced rep.form)
          from-spaced before place (shape ∷ behind) =
              All-cons (λ (rep : Representation). IsSpaced rep.form) (representation t naming defaults document first before place shape behind)
              (representations_from t naming defaults document first (shape ∷ before) (place + 1) behind) (form-spaced shape.form) (from-spaced (shape ∷ before) (place + 1) behind)

    pub all-spaced : (place first : ℕ) (ds : List SetDocument) → AreSpaced (representations_of t place first ds)
    all-spaced place first [] = All-nil (λ (rep : Representation). IsSpaced rep.form)
    all-spaced place first (d ∷ ds) =
        All-append (λ (rep : Representation). IsSpaced rep.form) (document_representations t place first d)
        (representations_of t (place + length (shapes_of d)) (first + openings (reverse (shapes_of d))) ds)
        (from-spaced (naming_of d.target (shapes_of d)) (defaults_of (shapes_of d)) d.number first [] place (shapes_of d))
        (all-spaced (place + length (shapes_of d)) (first + openings (reverse (shapes_of d))) ds)

  -- ---- where versions of components have names of their own
  by-spaced : (r : Redirection) (form : Represented) → IsSpaced form → IsSpaced (redirected_by r form)
  by-spaced r (parts.Any wildcard) h = h
  by-spaced r _ h = tt

  redirected-spaced : (r : Option Redirection) (form : Represented) → IsSpaced form → IsSpaced (redirected r form)
  redirected-spaced None form h = h
  redirected-spaced (Some r) form h = by-spaced r form h

  by-name-spaced : (name : ℕ) (form : Represented) → IsSpaced form → IsSpaced (named_by name form)
  by-name-spaced name (parts.Any wildcard) h = h
  by-name-spaced name _ h = tt

  named-spaced : (name : Option ℕ) (form : Represented) → IsSpaced form → IsSpaced (named name form)
  named-spaced None form h = h
  named-spaced (Some name) form h = by-name-spaced name form h

  module _ (u : NameTable) (reps : List Representation) (originals : List (Option ℕ)) where
    pub renamed-spaced : (place : ℕ) (some : List Representation) → AreSpaced some → AreSpaced (renamed_from u reps originals place some)
    renamed-spaced place [] h = h
    renamed-spaced place (rep ∷ some) h =
        All-cons (λ (x : Representation). IsSpaced x.form) (renamed_as (original_name u reps originals place) (redirection_at u reps originals place) rep) (renamed_from u reps originals (suc place) some)
        (named-spaced (original_name u reps originals place) (redirected (redirection_at u reps originals place) rep.form)
        (redirected-spaced (redirection_at u reps originals place) rep.form (All-head (λ (x : Representation). IsSpaced x.form) rep some h)))
        (renamed-spaced (suc place) some (All-tail (λ (x : Representation). IsSpaced x.form) rep some h))
