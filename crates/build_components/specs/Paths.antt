-- The paths of identity constraints by their representations (Structures 3.11.2).
use Rattle.std.specs.Prelude.{ℕ, List, [], ◌∷◌, Option, None, Some, slice_get}
use Rattle.std.specs.List.{flat_map}
use Rattle.std.specs.Option.{option_or, option_and_then, option_to_list}
use Rattle.xs_components.specs.declared.constraint.PathText.{PathText}
use Rattle.representations.specs.declared.parts.Represented.{Represented}
use Rattle.representations.specs.declared.parts.Represented.TheVariants as forms
use Rattle.representations.specs.declared.parts.Representation.{Representation}
use Rattle.representations.specs.declared.source.Source.{Source}
use Rattle.build_types.specs.SimpleTypes.{scope_at}

module _ (source : Source) where
  -- a path, read in the scope of its element
  abbrev pub path_of : Representation → List ℕ → PathText
  path_of rep path = record { text = path; at = rep.at; scope = scope_at source.scopes.now rep.scope }

  abbrev pub selector_of : Represented → Representation → Option PathText
  selector_of (forms.Selector path) rep = Some (path_of rep path)
  selector_of _ rep = None

  abbrev pub selector_at : ℕ → Option PathText
  selector_at place = option_and_then (λ rep. selector_of rep.form rep) (slice_get source.reps.now place)

  -- the selector among members
  abbrev pub selector : List ℕ → Option PathText
  selector [] = None
  selector (member ∷ members) = option_or (selector_at member) (selector members)

  abbrev pub field_of : Represented → Representation → Option PathText
  field_of (forms.Field path) rep = Some (path_of rep path)
  field_of _ rep = None

  abbrev pub field_at : ℕ → Option PathText
  field_at place = option_and_then (λ rep. field_of rep.form rep) (slice_get source.reps.now place)

  -- the fields among members, in order
  abbrev pub fields : List ℕ → List PathText
  fields members = flat_map (λ member. option_to_list (field_at member)) members
