-- The content of complex types by their representations (Structures 3.4.2).
use Rattle.std.specs.Prelude.{ℕ, ◌==◌, ◌&&◌, not, Bool, true, false, List, Option, None, Some, find, is_some, slice_get, if◌then◌else◌}
use Rattle.std.specs.Option.{option_map, option_and_then, option_or, unwrap_or}
use Rattle.representations.specs.declared.parts.Represented.{Represented}
use Rattle.representations.specs.declared.parts.Represented.TheVariants as forms
use Rattle.representations.specs.declared.parts.Representation.{Representation}
use Rattle.build_types.specs.SimpleTypes.{first_member}
use Rattle.set_representations.specs.Numbers.{number_at, first_number}

module _ (reps : List Representation) where
  abbrev pub is_simple_content : Represented → Bool
  is_simple_content forms.SimpleContent = true
  is_simple_content _ = false

  -- a complex type with these members has simpleContent
  abbrev pub has_simple_content : List ℕ → Bool
  has_simple_content members = unwrap_or (option_map (λ content. is_simple_content content.form) (first_member reps members)) false

  abbrev pub mixed_by : Represented → Bool → Bool
  mixed_by (forms.ComplexContent mixed) own = unwrap_or mixed own
  mixed_by _ own = own

  -- a complex type is mixed by its complexContent, where that says so or not, else by its own attribute
  abbrev pub is_mixed : Bool → List ℕ → Bool
  is_mixed own members = unwrap_or (option_map (λ content. mixed_by content.form own) (first_member reps members)) own

  abbrev pub derivation_in : Represented → List ℕ → Option Representation
  derivation_in forms.SimpleContent members = first_member reps members
  derivation_in (forms.ComplexContent mixed) members = first_member reps members
  derivation_in _ members = None

  abbrev pub derivation : List ℕ → Option Representation
  derivation members = option_and_then (λ content. derivation_in content.form content.members) (first_member reps members)

  -- what the particle and the attributes of a complex type stand in: the restriction or extension in its content, else the type
  abbrev pub holder : Representation → Representation
  holder rep = unwrap_or (derivation rep.members) rep

-- where particles have these numbers by place
module _ (reps : List Representation) (particles : List (Option ℕ)) where
  -- a sequence or all without members, or a choice without members that need not come
  abbrev pub is_empty_by : Represented → ℕ → Bool → Bool
  is_empty_by forms.Sequence min has_members = not has_members
  is_empty_by forms.All min has_members = not has_members
  is_empty_by forms.Choice min has_members = not has_members && min == 0
  is_empty_by _ min has_members = false

  abbrev pub is_empty_in : Option Representation → Bool
  is_empty_in None = true
  is_empty_in (Some rep) = is_empty_by rep.form rep.min (is_some (first_number particles rep.members))

  abbrev pub explicit_at : Option ℕ → Option ℕ
  explicit_at None = None
  explicit_at (Some place) = if is_empty_in (slice_get reps place) then None else number_at particles place

  -- the place of the particle among members
  abbrev pub particle_place : List ℕ → Option ℕ
  particle_place members = find (λ member. is_some (number_at particles member)) members

  -- the explicit content: the particle among members, where that is not empty
  abbrev pub explicit_content : List ℕ → Option ℕ
  explicit_content members = explicit_at (particle_place members)

  -- the effective content: the empty sequence of a mixed type, which stands in the place of the type, else the explicit content
  abbrev pub effective_content : ℕ → Representation → Option ℕ
  effective_content place rep = option_or (number_at particles place) (explicit_content (holder reps rep).members)
