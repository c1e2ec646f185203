-- An element found as a target of constraints, one after another.
use Rattle.std.proofs.Common.{◌≡◌, ℕ, Bool, true, false, if◌then◌else◌, List, [], ◌∷◌, length, Option, None, Some, refl, sym, ap, ◌∙◌}
use Rattle.std.specs.Prelude.{slice_get, unwrap_or}
use Rattle.xs_names.specs.Names.{NameTable}
use Rattle.xs_components.specs.Tables.{Tables}
use Rattle.xpath_subset.specs.Reached as paths
use Rattle.xpath_subset.specs.declared.paths.IdentityPaths.{IdentityPaths}
use Rattle.identity_constraints.specs.Seen.{KeyElement, KeyForest, Reached}
use Rattle.identity_constraints.specs.Targets.{Outcome, expanded, field_nodes, is_target, no_paths, outcome_at, paths_of}
use Rattle.path_walk.specs.Outcomes.{outcome_in}
use Rattle.path_walk.specs.inside.Walk.{reached}
use Rattle.scope_targets.specs.Targetings.{targeting_for}

pub no_items : {X : Type 0} (xs : List X) → length xs ≡ 0 → xs ≡ []
no_items [] e = refl
no_items (x ∷ xs) e = cc

module _ (names : NameTable) (t : Tables) (identities : List IdentityPaths) (scope k : ℕ) where
  -- a constraint without paths selects nothing
  pub without-paths : (r : Reached) → slice_get identities k ≡ None → targeting_for names t identities scope k r ≡ []
  unfolding paths.reached
  without-paths r e =
      ap (λ (o : Option IdentityPaths). if is_target names (unwrap_or o no_paths).selector r then record { scope = scope; constraint = k; outcome = outcome_at names t identities k r } ∷ [] else []) e

  module _ (read : IdentityPaths) (is : slice_get identities k ≡ Some read) where
    paths-are : paths_of identities k ≡ read
    paths-are = ap (λ (o : Option IdentityPaths). unwrap_or o no_paths) is

    pub not-selected : (r : Reached) → paths.reached read.selector (expanded names r.way) None ≡ false → targeting_for names t identities scope k r ≡ []
    not-selected r off =
        ap (λ (q : IdentityPaths). if is_target names q.selector r then record { scope = scope; constraint = k; outcome = outcome_at names t identities k r } ∷ [] else []) paths-are
        ∙ ap (λ (b : Bool). if b then record { scope = scope; constraint = k; outcome = outcome_at names t identities k r } ∷ [] else []) off

    outcome-is : (way : List ℕ) (own : KeyElement) (below : KeyForest) → outcome_at names t identities k (reached way own below) ≡ outcome_in names t read.fields own below
    unfolding field_nodes
    outcome-is way own below = ap (λ (q : IdentityPaths). outcome_in names t q.fields own below) paths-are

    pub selected : (way : List ℕ) (own : KeyElement) (below : KeyForest) (outcome : Outcome) → paths.reached read.selector (expanded names way) None ≡ true → outcome ≡ outcome_in names t read.fields own below
        → targeting_for names t identities scope k (reached way own below) ≡ record { scope = scope; constraint = k; outcome = outcome } ∷ []
    selected way own below outcome on found =
        ap (λ (q : IdentityPaths). if is_target names q.selector (reached way own below) then record { scope = scope; constraint = k; outcome = outcome_at names t identities k (reached way own below) } ∷ [] else []) paths-are
        ∙ ap (λ (b : Bool). if b then record { scope = scope; constraint = k; outcome = outcome_at names t identities k (reached way own below) } ∷ [] else []) on
        ∙ ap (λ (o : Outcome). record { scope = scope; constraint = k; outcome = o } ∷ []) (outcome-is way own below ∙ sym found)
