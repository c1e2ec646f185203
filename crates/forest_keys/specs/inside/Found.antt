-- What is counted of the targets of the elements of a forest, by their places.
use Rattle.std.specs.Prelude.{ℕ, ◌+◌, ◌==◌, Bool, List, [], ◌∷◌, if◌then◌else◌}
use Rattle.std.specs.List.{list_any}
use Rattle.xs_names.specs.Names.{NameTable}
use Rattle.xs_components.specs.Tables.{Tables}
use Rattle.xpath_subset.specs.declared.paths.IdentityPaths.{IdentityPaths}
use Rattle.identity_constraints.specs.Seen.{KeyElement, KeyForest, none, element}
use Rattle.identity_constraints.specs.Targets.{Outcome, constraints_of, outcomes}
use Rattle.path_walk.specs.inside.Walk.{size}
use Rattle.key_records.specs.Counted.{Counted, Feature, has, no_targets, one_target, plus}
use Rattle.key_records.specs.Faults.{weight}

-- of some targets how many have it
abbrev pub count_in : List Outcome → Feature → ℕ
count_in [] x = 0
count_in (o ∷ os) x = weight (has x o.tuple o.misused o.nillable) + count_in os x

-- the targets of a constraint of an element
abbrev pub targets_of : ℕ → ℕ → List Outcome → Counted
targets_of place k [] = no_targets
targets_of place k (o ∷ os) = plus (one_target place k o.tuple o.misused o.nillable) (targets_of place k os)

abbrev pub has_number : ℕ → List ℕ → Bool
has_number k ks = list_any (λ other. other == k) ks

module _ (names : NameTable) (t : Tables) (identities : List IdentityPaths) where
  -- those of the first of some constraints, but where it is among the others
  abbrev pub targets_first : ℕ → ℕ → List ℕ → KeyElement → KeyForest → Counted
  targets_first place k ks own below = if has_number k ks then no_targets else targets_of place k (outcomes names t identities k own below)

  -- those of some constraints of an element, each once
  abbrev pub targets_for : ℕ → List ℕ → KeyElement → KeyForest → Counted
  targets_for place [] own below = no_targets
  targets_for place (k ∷ ks) own below = plus (targets_first place k ks own below) (targets_for place ks own below)

  abbrev pub targets_at : ℕ → KeyElement → KeyForest → Counted
  targets_at place own below = targets_for place (constraints_of t own) own below

  -- those of siblings and of all below them
  abbrev pub targets_along : ℕ → KeyForest → Counted
  targets_along place none = no_targets
  targets_along place (element own below next) = plus (targets_at place own below) (plus (targets_along (place + 1) below) (targets_along (place + 1 + size below) next))
