-- What targets come to, field by field and target by target.
use Rattle.std.specs.Prelude.{◌≡◌, ℕ, List, [], ◌∷◌, ◌++◌, Option, None, Some, if◌then◌else◌}
use Rattle.std.specs.List.{list_any, flat_map}
use Rattle.simple_values.specs.declared.key.Key.{Key}
use Rattle.xs_names.specs.Names.{NameTable}
use Rattle.xs_components.specs.Tables.{Tables}
use Rattle.xpath_subset.specs.declared.paths.IdentityPaths.{IdentityPaths}
use Rattle.identity_constraints.specs.Seen.{KeyElement, KeyForest, Reached}
use Rattle.identity_constraints.specs.Targets.{FieldNode, Outcome, key_sequence, is_misused, is_nillable, is_target}
use Rattle.path_walk.specs.Outcomes.{outcome_in}
use Rattle.path_walk.specs.declared.tuples.TargetOutcome.{TargetOutcome}
use Rattle.path_walk.specs.inside.Walk.{reached, walk}

-- a key behind others
abbrev pub extended : Option (List Key) → Option Key → Option (List Key)
extended keys None = None
extended None (Some key) = None
extended (Some keys) (Some key) = Some (keys ++ key ∷ [])

-- the outcome is that of these fields
pub record AreFieldsOf (t : Tables) (fields : List (List FieldNode)) (o : TargetOutcome) : Type 0 where
  pub tuple_is : o.tuple ≡ key_sequence fields
  pub misused_is : o.misused ≡ list_any (is_misused t) fields
  pub nillable_is : o.nillable ≡ list_any (list_any (is_nillable t)) fields

module _ (names : NameTable) (t : Tables) (paths : IdentityPaths) where
  abbrev pub outcome_to : Reached → Outcome
  outcome_to r = outcome_in names t paths.fields r.own r.below

  -- at the end of a way
  abbrev pub outcome_here : List ℕ → KeyElement → KeyForest → List Outcome
  outcome_here way own below = if is_target names paths.selector (reached way own below) then outcome_in names t paths.fields own below ∷ [] else []

  abbrev pub outcome_if : Reached → List Outcome
  outcome_if r = outcome_here r.way r.own r.below

  abbrev pub outcomes_along : List ℕ → KeyForest → List Outcome
  outcomes_along way f = flat_map outcome_if (walk way f)
