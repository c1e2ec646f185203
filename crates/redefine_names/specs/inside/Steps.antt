-- References and pairs one after another.
use Rattle.std.specs.Prelude.{◌≡◌, ◌↔◌, ℕ, suc, ◌<◌, ◌&&◌, ◌==◌, Bool, true, false, List, [], ◌∷◌, ◌++◌, Option, None, Some, length, slice_index_or, if◌then◌else◌}
use Rattle.std.specs.Option.{option_to_list}
use Rattle.representations.specs.declared.parts.Represented.{Represented}
use Rattle.representations.specs.declared.parts.Representation.{Representation}
use Rattle.set_representations.specs.Numbers.{number_at}
use Rattle.redefine_names.specs.Redirections.{same_kind, version_around}
use Rattle.redefine_names.specs.declared.declared.Declared.{Declared}
use Rattle.redefine_names.specs.declared.pairs.RedefinedPair.{RedefinedPair}
use Rattle.redefine_names.specs.Redefined.{referred, redefined_by, IsSelfReference}

-- what is declared is what is referred to
abbrev pub if_same : ℕ → Option Declared → Option Declared → Option ℕ
if_same version None to = None
if_same version (Some original) None = None
if_same version (Some original) (Some to) = if same_kind original.kind to.kind && (original.name == to.name) then Some version else None

module _ (reps : List Representation) (originals : List (Option ℕ)) where
  -- the component that a form is a reference of to itself, by the one in which it stands
  abbrev pub self_referring : Option ℕ → Represented → Option ℕ
  self_referring None form = None
  self_referring (Some version) form = if_same version (redefined_by reps originals version) (referred form)

  abbrev pub self_referring_at : ℕ → Representation → Option ℕ
  self_referring_at place rep = self_referring (version_around reps originals place) rep.form

  -- a reference to itself among the first elements
  abbrev pub HasSelfBelow : ℕ → ℕ → Type 0
  HasSelfBelow count version = (place : ℕ) × (place < count) × IsSelfReference reps originals version place

  -- the marks say which components have one
  pub record AreMarks (count : ℕ) (marks : List Bool) : Type 0 where
    pub each : length marks ≡ length reps
    pub right : (version : ℕ) → version < length reps → (slice_index_or marks version false ≡ true) ↔ HasSelfBelow count version

-- the mark of a place, if there is one, is set, and the others are as they were
pub record IsMarked (old : List Bool) (place : Option ℕ) (new : List Bool) : Type 0 where
  pub each : length new ≡ length old
  pub itself : (p : ℕ) → p < length old → place ≡ Some p → slice_index_or new p false ≡ true
  pub others : (p : ℕ) → (place ≡ Some p → ⊥) → slice_index_or new p false ≡ slice_index_or old p false

abbrev pub numbered_pair : Option ℕ → Option ℕ → Option RedefinedPair
numbered_pair None original = None
numbered_pair (Some own) None = None
numbered_pair (Some own) (Some original) = Some (record { own = own; original = original })

-- by the numbers of components and the marks of those that have a reference to themselves, by place
module _ (numbers : List (Option ℕ)) (marks : List Bool) where
  -- the pair of a component at a place
  abbrev pub pair_at : ℕ → Option ℕ → Option RedefinedPair
  pair_at version None = None
  pair_at version (Some original) = if slice_index_or marks version false then None else numbered_pair (number_at numbers version) (number_at numbers original)

  -- those of all components, from a place on
  abbrev pub pairs_of : ℕ → List (Option ℕ) → List RedefinedPair
  pairs_of version [] = []
  pairs_of version (original ∷ originals) = option_to_list (pair_at version original) ++ pairs_of (suc version) originals
