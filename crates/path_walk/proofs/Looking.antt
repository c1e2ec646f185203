-- The nodes of a field, from a target downwards; and what targets come to.
use Rattle.std.proofs.Common.{◌≡◌, ℕ, Bool, true, false, if◌then◌else◌, List, [], ◌∷◌, ◌++◌, length, map, refl, sym, ◌∙◌, ap, subst}
use Rattle.std.specs.List.{flat_map, filter}
use Rattle.xs_names.specs.Names.{NameTable}
use Rattle.xs_components.specs.Tables.{Tables}
use Rattle.xpath_subset.specs.declared.path.Path.{Path}
use Rattle.xpath_subset.specs.declared.paths.IdentityPaths.{IdentityPaths}
use Rattle.identity_constraints.specs.Seen.{KeyElement, KeyForest, reached_below}
use Rattle.identity_constraints.specs.Targets.{nodes_at, field_nodes, is_target, outcomes, outcome_at, has_constraint, paths_of, no_paths}
use Rattle.path_walk.specs.declared.nodes.FieldNodes.{FieldNodes}
use Rattle.path_walk.specs.inside.Nodes.{AreAdded, summed}
use Rattle.path_walk.specs.inside.Walk.{reached, nodes_along}
use Rattle.path_walk.specs.inside.Extended.{outcome_here, outcome_if, outcome_to, outcomes_along}
use Rattle.path_walk.proofs.Adding.{added_both}
use Rattle.path_walk.proofs.Walking.{walk_all}
use Rattle.path_walk.proofs.Selecting.{no_target}

pub no_items : {X : Type 0} (xs : List X) → length xs ≡ 0 → xs ≡ []
no_items [] e = refl
no_items (x ∷ xs) e = cc

module _ (names : NameTable) (t : Tables) (field : List Path) (own sight : KeyElement) (below : KeyForest) where
  pub looked : (way other : List ℕ) (empty mid new : FieldNodes) → own ≡ sight → way ≡ [] → other ≡ [] → empty ≡ summed t [] → ((b : KeyForest) → AreAdded t (nodes_at names field (reached way sight b)) empty mid)
      → AreAdded t (nodes_along names field other below) mid new → new ≡ summed t (field_nodes names field (reached [] own below))
  unfolding field_nodes
  looked way other empty mid new same front behind none first rest =
      let here = nodes_at names field (reached [] own below) in
      let one : AreAdded t here empty mid =
      subst (λ (w : List ℕ). AreAdded t (nodes_at names field (reached w own below)) empty mid) front (subst (λ (x : KeyElement). AreAdded t (nodes_at names field (reached way x below)) empty mid) (sym same) (first below)) in
      let two : AreAdded t (nodes_along names field [] below) mid new = subst (λ (w : List ℕ). AreAdded t (nodes_along names field w below) mid new) behind rest in
      added_both t here (nodes_along names field [] below) empty mid new one two [] none
      ∙ ap (λ rs. summed t (here ++ flat_map (nodes_at names field) rs)) (walk_all below)

-- ---- targets

first-filtered : {A B : Type 0} (p : A → Bool) (h : A → B) (x : A) (xs : List A) (b : Bool) → p x ≡ b → flat_map (λ y. if p y then h y ∷ [] else []) xs ≡ map h (filter p xs)
    → flat_map (λ y. if p y then h y ∷ [] else []) (x ∷ xs) ≡ map h (filter p (x ∷ xs))
first-filtered p h x xs true e rest = rw e (ap (λ ys. h x ∷ ys) rest)
first-filtered p h x xs false e rest = rw e rest

filtered : {A B : Type 0} (p : A → Bool) (h : A → B) (xs : List A) → flat_map (λ x. if p x then h x ∷ [] else []) xs ≡ map h (filter p xs)
filtered p h [] = refl
filtered p h (x ∷ xs) = first-filtered p h x xs (p x) refl (filtered p h xs)

module _ (names : NameTable) (t : Tables) (identities : List IdentityPaths) (k : ℕ) (own : KeyElement) (below : KeyForest) where
  pub no_outcomes : has_constraint names t identities k own ≡ false → outcomes names t identities k own below ≡ []
  unfolding outcomes
  no_outcomes e = rw e refl

  pub all_outcomes : (paths : IdentityPaths) → has_constraint names t identities k own ≡ true → paths_of identities k ≡ paths
      → outcomes names t identities k own below ≡ outcome_here names t paths [] own below ++ outcomes_along names t paths [] below
  unfolding outcomes field_nodes
  all_outcomes paths e is =
      rw e (sym
      (ap (λ rs. outcome_here names t paths [] own below ++ flat_map (outcome_if names t paths) rs) (walk_all below)
      ∙ filtered (is_target names paths.selector) (outcome_to names t paths) (reached [] own below ∷ reached_below below)
      ∙ ap (λ (q : IdentityPaths). map (outcome_to names t q) (filter (is_target names q.selector) (reached [] own below ∷ reached_below below))) (sym is)))

  pub no_paths_outcomes : paths_of identities k ≡ no_paths → outcomes names t identities k own below ≡ []
  unfolding outcomes
  no_paths_outcomes is = by (has_constraint names t identities k own) refl
    where
      none-selected : map (outcome_at names t identities k) (filter (is_target names (paths_of identities k).selector) (reached [] own below ∷ reached_below below)) ≡ []
      none-selected =
          ap (λ (q : IdentityPaths). map (outcome_at names t identities k) (filter (is_target names q.selector) (reached [] own below ∷ reached_below below))) is
          ∙ ap (map (outcome_at names t identities k)) (no_target names (reached [] own below ∷ reached_below below))

      by : (b : Bool) → has_constraint names t identities k own ≡ b → outcomes names t identities k own below ≡ []
      by true e = rw e none-selected
      by false e = rw e refl
