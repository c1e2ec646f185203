-- Identity-constraint Satisfied and the Identity-constraint Table: Structures 3.11.4, clause 4, and 3.11.5.
use Rattle.std.specs.Prelude.{ℕ, ◌+◌, ◌==◌, ◌||◌, Bool, false, not, if◌then◌else◌, List, [], ◌∷◌, ◌++◌, Option, None, Some, is_none, slice_get}
use Rattle.std.specs.List.{flat_map, list_any}
use Rattle.std.specs.Option.{option_to_list}
use Rattle.xs_names.specs.Names.{NameTable}
use Rattle.xs_codes.specs.declared.code.Code.{Code}
use Rattle.xs_codes.specs.declared.code.Code.TheVariants.{CvcIdentityConstraint3, CvcIdentityConstraint4_1, CvcIdentityConstraint4_2_1, CvcIdentityConstraint4_2_2, CvcIdentityConstraint4_2_3, CvcIdentityConstraint4_3}
use Rattle.xs_codes.specs.declared.fault.Found.{Found}
use Rattle.simple_values.specs.declared.key.Key.{Key}
use Rattle.xs_components.specs.Tables.{Tables}
use Rattle.xs_components.specs.declared.constraint.Constraint.{Constraint}
use Rattle.xs_components.specs.declared.constraint.ConstraintKind.{ConstraintKind}
use Rattle.xs_components.specs.declared.constraint.ConstraintKind.TheVariants.{Unique, Key as KeyKind, Keyref}
use Rattle.identity_tables.specs.Tuple.{same_tuple}
use Rattle.xpath_subset.specs.declared.paths.IdentityPaths.{IdentityPaths}
use Rattle.identity_constraints.specs.Seen.{KeyElement, KeyForest, none, element}
use Rattle.identity_constraints.specs.Targets.{Outcome, constraints_of, outcomes}

-- the key-sequences of the qualified node set
abbrev pub tuples_in : List Outcome → List (List Key)
tuples_in found = flat_map (λ (o : Outcome). option_to_list o.tuple) found

abbrev pub has_tuple : List Key → List (List Key) → Bool
has_tuple tuple tuples = list_any (same_tuple tuple) tuples

-- two of them are pairwise equal
abbrev pub has_repeated : List (List Key) → Bool
has_repeated [] = false
has_repeated (tuple ∷ tuples) = has_tuple tuple tuples || has_repeated tuples

-- 3.11.5: the node table of an element has the tuples of its own, and those that are in the table of exactly one child element
abbrev pub is_held : List (List Key) → List Key → ℕ → Bool
is_held own tuple bearing = has_tuple tuple own || (bearing == 1)

-- cvc-identity-constraint.3 (Structures 3.11.4): a field has several nodes, or one of a complex type without simple content
abbrev pub has_misused : List Outcome → Bool
has_misused found = list_any (λ (o : Outcome). o.misused) found

-- cvc-identity-constraint.4.1 (Structures 3.11.4): two key-sequences of a unique are equal
abbrev pub is_not_unique : List Outcome → Bool
is_not_unique found = has_repeated (tuples_in found)

-- cvc-identity-constraint.4.2.1 (Structures 3.11.4): a target of a key is not in the qualified node set, since it lacks a field
abbrev pub has_lacking : List Outcome → Bool
has_lacking found = list_any (λ (o : Outcome). is_none o.tuple) found

-- cvc-identity-constraint.4.2.2 (Structures 3.11.4): two key-sequences of a key are equal
abbrev pub is_no_key : List Outcome → Bool
is_no_key found = has_repeated (tuples_in found)

-- cvc-identity-constraint.4.2.3 (Structures 3.11.4): a field of a key has an element whose declaration is nillable
abbrev pub has_nillable : List Outcome → Bool
has_nillable found = list_any (λ (o : Outcome). o.nillable) found

-- the first that is broken
abbrev pub first_broken : List (Bool × Code) → List Found
first_broken [] = []
first_broken (check ∷ checks) = if check.0 then record { code = check.1; place = 0 } ∷ [] else first_broken checks

module _ (names : NameTable) (t : Tables) (identities : List IdentityPaths) where
  abbrev pub own_tuples : ℕ → KeyElement → KeyForest → List (List Key)
  own_tuples k own below = tuples_in (outcomes names t identities k own below)

  -- how many of the siblings have a tuple in their tables for a key or unique
  abbrev pub bearing : ℕ → List Key → KeyForest → ℕ
  bearing k tuple none = 0
  bearing k tuple (element own below next) = (if is_held (own_tuples k own below) tuple (bearing k tuple below) then 1 else 0) + bearing k tuple next

  -- the table of an element for a key or unique has the tuple
  abbrev pub is_visible : ℕ → List Key → KeyElement → KeyForest → Bool
  is_visible k tuple own below = is_held (own_tuples k own below) tuple (bearing k tuple below)

  -- cvc-identity-constraint.4.3 (Structures 3.11.4): a key-sequence of a keyref is not in the table of this element for the key or
  -- unique that is referred to
  abbrev pub has_unmatched : ℕ → List Outcome → KeyElement → KeyForest → Bool
  has_unmatched key found own below = list_any (λ tuple. not (is_visible key tuple own below)) (tuples_in found)

  -- what each kind of constraint asks for, in order
  abbrev pub checks_by : ConstraintKind → List Outcome → KeyElement → KeyForest → List (Bool × Code)
  checks_by Unique found own below = (is_not_unique found, CvcIdentityConstraint4_1) ∷ []
  checks_by KeyKind found own below =
      (has_lacking found, CvcIdentityConstraint4_2_1) ∷ (is_no_key found, CvcIdentityConstraint4_2_2) ∷ (has_nillable found, CvcIdentityConstraint4_2_3) ∷ []
  checks_by (Keyref key) found own below = (has_unmatched key found own below, CvcIdentityConstraint4_3) ∷ []

  abbrev pub checks : ConstraintKind → List Outcome → KeyElement → KeyForest → List (Bool × Code)
  checks kind found own below = (has_misused found, CvcIdentityConstraint3) ∷ checks_by kind found own below

  abbrev pub codes_by : ℕ → Option Constraint → KeyElement → KeyForest → List Found
  codes_by k None own below = []
  codes_by k (Some c) own below = first_broken (checks c.kind (outcomes names t identities k own below) own below)

  -- the codes of an element: of each constraint of its declaration, in order, the first that is broken
  unfoldable pub identity_codes : KeyElement → KeyForest → List Found
  identity_codes own below = flat_map (λ k. codes_by k (slice_get t.constraints.parts k) own below) (constraints_of t own)

  -- the codes of the element of a number
  abbrev pub identity_at : ℕ → KeyForest → List Found
  identity_at n none = []
  identity_at n (element own below next) = (if own.number == n then identity_codes own below else []) ++ (identity_at n below ++ identity_at n next)
