-- Elements as targets of the identity constraints of the elements at and above them: Structures 3.11.4.
use Rattle.std.specs.Prelude.{◌≡◌, ◌⊎◌, ℕ, ◌+◌, ◌==◌, ◌&&◌, Bool, if◌then◌else◌, List, [], ◌∷◌, ◌++◌}
use Rattle.std.specs.List.{flat_map, list_any}
use Rattle.xs_names.specs.Names.{NameTable}
use Rattle.xs_components.specs.Tables.{Tables}
use Rattle.xpath_subset.specs.declared.paths.IdentityPaths.{IdentityPaths}
use Rattle.identity_constraints.specs.Seen.{KeyElement, KeyForest, none, element, Reached}
use Rattle.identity_constraints.specs.Targets.{Outcome, constraints_of, is_target, outcome_at, paths_of}

-- An element is a target of a constraint of another that is at or above it, the scope, both by their numbers; and what it comes to there.
pub record Targeting : Type 0 where
  pub scope : ℕ
  pub constraint : ℕ
  pub outcome : Outcome

abbrev pub is_among : ℕ → List ℕ → Bool
is_among k ks = list_any (λ other. other == k) ks

module _ (names : NameTable) (t : Tables) (identities : List IdentityPaths) where
  -- the element at the end of a way down from a scope, as a target of one of its constraints
  abbrev pub targeting_for : ℕ → ℕ → Reached → List Targeting
  targeting_for scope k r =
      if is_target names (paths_of identities k).selector r then record { scope = scope; constraint = k; outcome = outcome_at names t identities k r } ∷ [] else []

  -- the same of the first of some constraints, but where it is among the others
  abbrev pub targeting_first : ℕ → ℕ → List ℕ → Reached → List Targeting
  targeting_first scope k ks r = if is_among k ks then [] else targeting_for scope k r

  -- of some constraints, each once
  abbrev pub targetings_for : ℕ → List ℕ → Reached → List Targeting
  targetings_for scope [] r = []
  targetings_for scope (k ∷ ks) r = targeting_first scope k ks r ++ targetings_for scope ks r

  -- of the constraints of scopes that are above one another, the nearest first: the way leads down from the first of them
  abbrev pub targetings_up : List ℕ → KeyElement → KeyForest → List KeyElement → List Targeting
  targetings_up way own below [] = []
  targetings_up way own below (scope ∷ above) =
      targetings_for scope.number (constraints_of t scope) (record { way = way; own = own; below = below }) ++ targetings_up (scope.name ∷ way) own below above

  -- an element as a target of itself and of all elements above it, the nearest first
  abbrev pub targetings_of : List KeyElement → KeyElement → KeyForest → List Targeting
  targetings_of above own below = targetings_up [] own below (own ∷ above)

  -- siblings and all elements below them, in document order, where these elements are above
  abbrev pub targetings_along : List KeyElement → KeyForest → List Targeting
  targetings_along above none = []
  targetings_along above (element own below next) = targetings_of above own below ++ (targetings_along (own ∷ above) below ++ targetings_along above next)

-- ---- what the targets of a constraint of a scope come to

abbrev pub outcome_for : ℕ → ℕ → Targeting → List Outcome
outcome_for scope k a = if (a.scope == scope) && (a.constraint == k) then a.outcome ∷ [] else []

abbrev pub outcomes_for : ℕ → ℕ → List Targeting → List Outcome
outcomes_for scope k found = flat_map (outcome_for scope k) found

-- ---- elements of a forest

-- the forest has this element with this below it
abbrev pub HasWithin : KeyElement → KeyForest → KeyForest → Type 0
HasWithin own below none = ⊥
HasWithin own below (element other under next) = ((other ≡ own) × (under ≡ below)) ⊎ (HasWithin own below under ⊎ HasWithin own below next)

-- how many elements have the number
abbrev pub uses : ℕ → KeyForest → ℕ
uses n none = 0
uses n (element own below next) = (if own.number == n then 1 else 0) + (uses n below + uses n next)
