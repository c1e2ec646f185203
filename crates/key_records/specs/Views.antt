-- Tuples counted under numbers of elements, and what identity constraints see (Structures 3.11.4, 3.11.5).
use Rattle.std.specs.Prelude.{◌≡◌, ℕ, List}
use Rattle.std.specs.List.{count_by}
use Rattle.xs_names.specs.Names.{NameTable}
use Rattle.simple_values.specs.declared.key.Key.{Key}
use Rattle.xs_components.specs.Tables.{Tables}
use Rattle.xpath_subset.specs.declared.paths.IdentityPaths.{IdentityPaths}
use Rattle.identity_tables.specs.Tuple.{same_tuple}
use Rattle.identity_constraints.specs.Counting.{Numbers, none as no_numbers, node}
use Rattle.key_records.specs.Tables.{KeyTuple, for_key}
use Rattle.identity_constraints.specs.Seen.{KeyElement, KeyForest, none, element}
use Rattle.identity_constraints.specs.Satisfied.{own_tuples}

-- how often a tuple is there
abbrev pub times : List Key → List (List Key) → ℕ
times tuple tuples = count_by (same_tuple tuple) tuples

module _ (names : NameTable) (t : Tables) (identities : List IdentityPaths) (own : ℕ → KeyTuple → ℕ) where
  -- the own tuples of an element are counted under a number, those of each constraint apart
  abbrev pub IsCounted : ℕ → KeyElement → KeyForest → Type 0
  IsCounted n e below = (k : ℕ) (tuple : List Key) → own n (for_key k tuple) ≡ times tuple (own_tuples names t identities k e below)

  -- those of all elements are, where these are their numbers
  abbrev pub AreCounted : Numbers → KeyForest → Type 0
  AreCounted no_numbers none = Unit {0}
  AreCounted no_numbers (element e below next) = ⊥
  AreCounted (node n under behind) none = ⊥
  AreCounted (node n under behind) (element e below next) = IsCounted n e below × AreCounted under below × AreCounted behind next
