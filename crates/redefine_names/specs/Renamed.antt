-- Representations with the versions of components apart by their names (Structures 4.2.2).
use Rattle.std.specs.Prelude.{ℕ, suc, Bool, false, ◌==◌, List, [], ◌∷◌, Option, None, Some, if◌then◌else◌}
use Rattle.std.specs.List.{list_any}
use Rattle.xs_names.specs.Names.{NameTable}
use Rattle.representations.specs.declared.parts.Represented.{Represented}
use Rattle.representations.specs.declared.parts.Represented.TheVariants as forms
use Rattle.representations.specs.declared.parts.Representation.{Representation}
use Rattle.redefine_names.specs.declared.redirections.Redirection.{Redirection}
use Rattle.redefine_names.specs.VersionNames.{version_at}
use Rattle.redefine_names.specs.Redirections.{redirected, redirection_at}

-- a component under another name, where it is given one
abbrev pub named_by : ℕ → Represented → Represented
named_by name (forms.SimpleType own finals) = forms.SimpleType (Some name) finals
named_by name (forms.ComplexType head) = forms.ComplexType (record head { name = Some name })
named_by name (forms.Group own) = forms.Group name
named_by name (forms.AttributeGroup own) = forms.AttributeGroup name
named_by name form = form

abbrev pub named : Option ℕ → Represented → Represented
named None form = form
named (Some name) form = named_by name form

abbrev pub is_place : ℕ → Option ℕ → Bool
is_place place None = false
is_place place (Some other) = other == place

-- the representation at the place is the original of another
abbrev pub is_original : List (Option ℕ) → ℕ → Bool
is_original originals place = list_any (is_place place) originals

-- under this name, and with this redirection
abbrev pub renamed_as : Option ℕ → Option Redirection → Representation → Representation
renamed_as name redirection rep = record rep { form = named name (redirected redirection rep.form) }

-- of representations, and the original of each, by a table with the names of originals
module _ (t : NameTable) (reps : List Representation) (originals : List (Option ℕ)) where
  -- the name of its own that an original has; what is nobody's original keeps its name
  abbrev pub original_name : ℕ → Option ℕ
  original_name place = if is_original originals place then version_at t reps place else None

  abbrev pub renamed_from : ℕ → List Representation → List Representation
  renamed_from place [] = []
  renamed_from place (rep ∷ more) = renamed_as (original_name place) (redirection_at t reps originals place) rep ∷ renamed_from (suc place) more

  -- Structures 4.2.2: originals have names of their own, which their redefining components refer to; all other references to the name
  -- of a redefined component mean the version that is nobody's original
  abbrev pub renamed : List Representation
  renamed = renamed_from 0 reps
