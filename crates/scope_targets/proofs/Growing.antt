-- What names that are added leave as it was.
use Rattle.std.proofs.Common.{◌≡◌, ◌<◌, ◌+◌, ℕ, if◌then◌else◌, List, [], ◌∷◌, ◌++◌, length, map, Option, None, Some, refl, sym, ap, ◌∙◌}
use Rattle.std.specs.Prelude.{All, not, slice_get}
use Rattle.std.specs.List.{filter, flat_map, list_any}
use Rattle.std.proofs.lemmas.Grind.{flat_map-append}
use Rattle.std.proofs.lemmas.List.Elements.{All-nil, All-cons, All-append, All-head, All-tail}
use Rattle.xs_names.specs.Names.{NameTable, Grown}
use Rattle.xs_names.proofs.GrownLaws.{space_of-Grown, local_of-Grown}
use Rattle.xs_codes.specs.declared.code.Code.TheVariants.{CvcIdentityConstraint3, CvcIdentityConstraint4_1, CvcIdentityConstraint4_2_1, CvcIdentityConstraint4_2_2, CvcIdentityConstraint4_2_3, CvcIdentityConstraint4_3}
use Rattle.simple_values.specs.declared.key.Key.{Key}
use Rattle.xs_components.specs.Tables.{Tables}
use Rattle.xs_components.specs.declared.constraint.Constraint.{Constraint}
use Rattle.xs_components.specs.declared.constraint.ConstraintKind.{ConstraintKind}
use Rattle.xs_components.specs.declared.constraint.ConstraintKind.TheVariants.{Unique, Key as KeyKind, Keyref}
use Rattle.xpath_subset.specs.Reaches.{expanded_name}
use Rattle.xpath_subset.specs.Reached as paths
use Rattle.xpath_subset.specs.declared.path.Path.{Path}
use Rattle.xpath_subset.specs.declared.paths.IdentityPaths.{IdentityPaths}
use Rattle.identity_constraints.specs.Seen.{KeyAttribute, KeyElement, KeyForest, none, element, Reached, from_above, reached_below, reached_from}
use Rattle.identity_constraints.specs.Targets.{Outcome, attribute_at, attribute_node, constraints_of, element_node, expanded, field_nodes, is_target, nodes_at, outcome_at, outcome_by, outcomes, paths_of}
use Rattle.identity_constraints.specs.Satisfied.{bearing, checks_by, codes_by, first_broken, has_lacking, has_misused, has_nillable, identity_codes, is_held, is_no_key, is_not_unique, is_visible, tuples_in}
use Rattle.identity_constraints.specs.Counting.{weight}
use Rattle.path_walk.specs.Sight.{AreNamed, IsNamed}
use Rattle.path_walk.specs.inside.Walk.{reached}
use Rattle.scope_targets.specs.Found.{AreNamesOf}
use Rattle.scope_targets.specs.Targetings.{is_among, targeting_for, targetings_for, targetings_up, targetings_of}
use Rattle.scope_targets.proofs.Scopes.{after, filtered, further}

module _ (old new : NameTable) (grown : Grown old new) where
  abbrev IsOld : ℕ → Type 0
  IsOld n = n < length old.names

  one-name : (n : ℕ) → IsOld n → expanded_name new n ≡ expanded_name old n
  one-name n l = λ i. (space_of-Grown old new grown n l i, local_of-Grown old new grown n l i)

  all-names : (way : List ℕ) → All IsOld way → expanded new way ≡ expanded old way
  all-names [] all = refl
  all-names (n ∷ way) all = λ i. one-name n (All-head IsOld n way all) i ∷ all-names way (All-tail IsOld n way all) i

  longer : (way : List ℕ) (n : ℕ) → All IsOld way → IsOld n → All IsOld (way ++ n ∷ [])
  longer way n all is = All-append IsOld way (n ∷ []) all (All-cons IsOld n [] is (All-nil IsOld))

  -- what is read of each element of a forest, at the end of its way
  module _ {A : Type 0} (p q : Reached → List A)
      (one : (way : List ℕ) (own : KeyElement) (below : KeyForest) → All IsOld way → IsNamed old own → AreNamed old below → p (reached way own below) ≡ q (reached way own below)) where
    along : (way : List ℕ) (f : KeyForest) → All IsOld way → AreNamed old f → flat_map (λ r. p (after way r)) (reached_below f) ≡ flat_map (λ r. q (after way r)) (reached_below f)
    along way none all named = refl
    along way (element own below next) all named =
        let down = longer way own.name all named.0.name in
        let under = map (from_above own.name) (reached_below below) in
        (λ i. one (way ++ own.name ∷ []) own below down named.0 named.1.0 i ++ flat_map-append (λ r. p (after way r)) under (reached_below next) i)
        ∙ (λ i.
        q (reached (way ++ own.name ∷ []) own below)
        ++ ((further p way own.name (reached_below below) ∙ along (way ++ own.name ∷ []) below down named.1.0 ∙ sym (further q way own.name (reached_below below))) i
        ++ along way next all named.1.1 i))
        ∙ ap (λ xs. q (reached (way ++ own.name ∷ []) own below) ++ xs) (sym (flat_map-append (λ r. q (after way r)) under (reached_below next)))

    from : (own : KeyElement) (below : KeyForest) → IsNamed old own → AreNamed old below → flat_map p (reached_from own below) ≡ flat_map q (reached_from own below)
    from own below named under = λ i. one [] own below (All-nil IsOld) named under i ++ along [] below (All-nil IsOld) under i

  -- ---- the nodes of fields

  module _ (field : List Path) where
    one-attribute : (way : List ℕ) (a : KeyAttribute) → All IsOld way → IsOld a.name → attribute_at new field way a ≡ attribute_at old field way a
    one-attribute way a all is = λ i. if paths.reached field (all-names way all i) (Some (one-name a.name is i)) then attribute_node a ∷ [] else []

    all-attributes : (way : List ℕ) (more : List KeyAttribute) → All IsOld way → All (λ (a : KeyAttribute). a.name < length old.names) more
        → flat_map (attribute_at new field way) more ≡ flat_map (attribute_at old field way) more
    all-attributes way [] all are = refl
    all-attributes way (a ∷ more) all are =
        λ i.
        one-attribute way a all (All-head (λ (a : KeyAttribute). a.name < length old.names) a more are) i
        ++ all-attributes way more all (All-tail (λ (a : KeyAttribute). a.name < length old.names) a more are) i

    one-node : (way : List ℕ) (own : KeyElement) (below : KeyForest) → All IsOld way → IsNamed old own → nodes_at new field (reached way own below) ≡ nodes_at old field (reached way own below)
    one-node way own below all named =
        λ i. (if paths.reached field (all-names way all i) None then element_node own ∷ [] else []) ++ all-attributes way own.attributes all named.attributes i

    field-same : (way : List ℕ) (own : KeyElement) (below : KeyForest) → IsNamed old own → AreNamed old below → field_nodes new field (reached way own below) ≡ field_nodes old field (reached way own below)
    unfolding field_nodes
    field-same way own below named under = from (nodes_at new field) (nodes_at old field) (λ way own below all is below_is. one-node way own below all is) own below named under

  -- ---- targets

  module _ (t : Tables) (identities : List IdentityPaths) (own : KeyElement) (below : KeyForest) (named : IsNamed old own) (under : AreNamed old below) where
    outcome-same : (k : ℕ) (way : List ℕ) → outcome_at new t identities k (reached way own below) ≡ outcome_at old t identities k (reached way own below)
    outcome-same k way = λ i. outcome_by new t identities (map (λ field. field-same field way own below named under i) (paths_of identities k).fields)

    one-same : (scope k : ℕ) (way : List ℕ) → All IsOld way → targeting_for new t identities scope k (reached way own below) ≡ targeting_for old t identities scope k (reached way own below)
    one-same scope k way all =
        λ i. if paths.reached (paths_of identities k).selector (all-names way all i) None then record { scope = scope; constraint = k; outcome = outcome-same k way i } ∷ [] else []

    some-same : (scope : ℕ) (ks : List ℕ) (way : List ℕ) → All IsOld way → targetings_for new t identities scope ks (reached way own below) ≡ targetings_for old t identities scope ks (reached way own below)
    some-same scope [] way all = refl
    some-same scope (k ∷ ks) way all = λ i. (if is_among k ks then [] else one-same scope k way all i) ++ some-same scope ks way all i

    up-same : (way : List ℕ) (above : List KeyElement) → All IsOld way → AreNamesOf old above → targetings_up new t identities way own below above ≡ targetings_up old t identities way own below above
    up-same way [] all are = refl
    up-same way (s ∷ above) all are =
        let first = All-head (λ (e : KeyElement). e.name < length old.names) s above are in
        let rest = All-tail (λ (e : KeyElement). e.name < length old.names) s above are in
        λ i. some-same s.number (constraints_of t s) way all i ++ up-same (s.name ∷ way) above (All-cons IsOld s.name way first all) rest i

    pub all-same : (above : List KeyElement) → AreNamesOf old above → targetings_of new t identities above own below ≡ targetings_of old t identities above own below
    all-same above are = up-same [] (own ∷ above) (All-nil IsOld) (All-cons (λ (e : KeyElement). e.name < length old.names) own above named.name are)

  -- ---- codes

  module _ (t : Tables) (identities : List IdentityPaths) where
    outcomes-same : (k : ℕ) (own : KeyElement) (below : KeyForest) → IsNamed old own → AreNamed old below → outcomes new t identities k own below ≡ outcomes old t identities k own below
    unfolding outcomes
    outcomes-same k own below named under =
        let selector = (paths_of identities k).selector in
        let p : Reached → List Outcome = λ r. if is_target new selector r then outcome_at new t identities k r ∷ [] else [] in
        let q : Reached → List Outcome = λ r. if is_target old selector r then outcome_at old t identities k r ∷ [] else [] in
        let all : map (outcome_at new t identities k) (filter (is_target new selector) (reached_from own below)) ≡ map (outcome_at old t identities k) (filter (is_target old selector) (reached_from own below)) =
        sym (filtered (is_target new selector) (outcome_at new t identities k) (reached_from own below))
        ∙ from p q
        (λ way own below all is below_is i. if paths.reached selector (all-names way all i) None then outcome-same t identities own below is below_is k way i ∷ [] else [])
        own below named under
        ∙ filtered (is_target old selector) (outcome_at old t identities k) (reached_from own below) in
        λ i. if is_among k (constraints_of t own) then all i else []

    bearing-same : (k : ℕ) (tuple : List Key) (f : KeyForest) → AreNamed old f → bearing new t identities k tuple f ≡ bearing old t identities k tuple f
    bearing-same k tuple none named = refl
    bearing-same k tuple (element own below next) named =
        λ i. weight (is_held (tuples_in (outcomes-same k own below named.0 named.1.0 i)) tuple (bearing-same k tuple below named.1.0 i)) + bearing-same k tuple next named.1.1 i

    module _ (own : KeyElement) (below : KeyForest) (named : IsNamed old own) (under : AreNamed old below) where
      visible-same : (k : ℕ) (tuple : List Key) → is_visible new t identities k tuple own below ≡ is_visible old t identities k tuple own below
      visible-same k tuple = λ i. is_held (tuples_in (outcomes-same k own below named under i)) tuple (bearing-same k tuple below under i)

      by-kind : (kind : ConstraintKind) (found found2 : List Outcome) → found ≡ found2 → checks_by new t identities kind found own below ≡ checks_by old t identities kind found2 own below
      by-kind Unique found found2 same = λ i. (is_not_unique (same i), CvcIdentityConstraint4_1) ∷ []
      by-kind KeyKind found found2 same =
          λ i. (has_lacking (same i), CvcIdentityConstraint4_2_1) ∷ (is_no_key (same i), CvcIdentityConstraint4_2_2) ∷ (has_nillable (same i), CvcIdentityConstraint4_2_3) ∷ []
      by-kind (Keyref key) found found2 same = λ i. (list_any (λ tuple. not (visible-same key tuple i)) (tuples_in (same i)), CvcIdentityConstraint4_3) ∷ []

      code-same : (k : ℕ) (c : Option Constraint) → codes_by new t identities k c own below ≡ codes_by old t identities k c own below
      code-same k None = refl
      code-same k (Some c) =
          let found = outcomes-same k own below named under in
          let checks = by-kind c.kind (outcomes new t identities k own below) (outcomes old t identities k own below) found in
          λ i. first_broken ((has_misused (found i), CvcIdentityConstraint3) ∷ checks i)

      pub codes-same : identity_codes new t identities own below ≡ identity_codes old t identities own below
      unfolding identity_codes
      codes-same = λ i. flat_map (λ k. code-same k (slice_get t.constraints.parts k) i) (constraints_of t own)
