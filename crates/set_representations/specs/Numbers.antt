-- The numbers of components by the places of their representations: a component's number is the count of those before it.
use Rattle.std.specs.Prelude.{ℕ, ◌+◌, List, [], ◌∷◌, ◌++◌, Option, None, Some, map, length, slice_index_or}
use Rattle.std.specs.List.{flat_map}
use Rattle.std.specs.Option.{option_or, option_and_then, option_to_list}
use Rattle.component_tables.specs.Symbols.{first_place}
use Rattle.xs_components.specs.Table.{TableOf}
use Rattle.representations.specs.declared.parts.Representation.{Representation}

module _ {T : Type 0} where
  -- the number of the component that one element represents, if it does, where so many are built before
  abbrev pub number_of : List T → ℕ → Option ℕ
  number_of [] before = None
  number_of (part ∷ parts) before = Some before

  -- the number at each place, where `build` gives what an element represents
  abbrev pub numbers_of : (Representation → List T) → ℕ → List Representation → List (Option ℕ)
  numbers_of build before [] = []
  numbers_of build before (rep ∷ reps) = number_of (build rep) before ∷ numbers_of build (before + length (build rep)) reps

  -- the table with these parts more, each of rank 0
  abbrev pub with_parts : TableOf T → List T → TableOf T
  with_parts t parts = record { parts = t.parts ++ parts; ranks = t.ranks ++ map (λ part. 0) parts }

module _ {N : Type 0} where
  abbrev pub number_at : List (Option N) → ℕ → Option N
  number_at numbers place = slice_index_or numbers place None

  -- Structures 3.15.3: what a name means in a symbol space; of several components of the name the first counts
  abbrev pub number_named : List (Option N) → List (Option ℕ) → ℕ → Option N
  number_named numbers symbols name = option_and_then (number_at numbers) (first_place symbols name)

  -- the number at the first of some places that has one
  abbrev pub first_number : List (Option N) → List ℕ → Option N
  first_number numbers [] = None
  first_number numbers (place ∷ places) = option_or (number_at numbers place) (first_number numbers places)

  -- the numbers at places, in order
  abbrev pub numbers_in : List (Option N) → List ℕ → List N
  numbers_in numbers places = flat_map (λ place. option_to_list (number_at numbers place)) places
