-- The first that is broken of each constraint, one by one.
use Rattle.std.proofs.Common.{◌≡◌, ℕ, zero, suc, true, false, List, [], ◌∷◌, ◌++◌, length, map, refl, sym, ◌∙◌, ap, append_assoc, append-nil, Option, None, Some, arith}
use Rattle.std.specs.Prelude.{slice_get}
use Rattle.std.specs.List.{flat_map}
use Rattle.std.specs.Option.{option_and_then}
use Rattle.std.proofs.lemmas.List.{length-append}
use Rattle.xs_names.specs.Names.{NameTable}
use Rattle.xs_codes.specs.declared.code.Code.{Code}
use Rattle.xs_codes.specs.declared.code.Code.TheVariants.{CvcIdentityConstraint3, CvcIdentityConstraint4_1, CvcIdentityConstraint4_2_1, CvcIdentityConstraint4_2_2, CvcIdentityConstraint4_2_3, CvcIdentityConstraint4_3}
use Rattle.xs_codes.specs.declared.fault.Found.{Found}
use Rattle.xs_components.specs.Tables.{Tables}
use Rattle.xs_components.specs.declared.constraint.Constraint.{Constraint}
use Rattle.xs_components.specs.declared.constraint.ConstraintKind.{ConstraintKind}
use Rattle.xs_components.specs.declared.constraint.ConstraintKind.TheVariants.{Unique, Key, Keyref}
use Rattle.xpath_subset.specs.declared.paths.IdentityPaths.{IdentityPaths}
use Rattle.identity_constraints.specs.Seen.{KeyElement, KeyForest, none, element}
use Rattle.identity_constraints.specs.Targets.{Outcome, constraints_of, outcomes}
use Rattle.identity_constraints.specs.Satisfied.{has_misused, has_lacking, has_nillable, has_unmatched, is_no_key, is_not_unique, first_broken, checks, checks_by, codes_by, identity_codes}
use Rattle.path_walk.specs.Sight.{IsFirst, below_first, behind_first}
use Rattle.path_walk.specs.inside.Walk.{size}
use Rattle.key_records.specs.References.{key_of}
use Rattle.key_records.specs.declared.references.References.{References}
use Rattle.forest_keys.specs.Codes.{all_codes}
use Rattle.forest_keys.specs.inside.Keyrefs.{AreReferencesOf, key_in, referred}
use Rattle.forest_keys.specs.inside.Records.{found_of}

module _ (names : NameTable) (t : Tables) (identities : List IdentityPaths) where
  module _ (found : List Outcome) (own : KeyElement) (below : KeyForest) where
    pub misused-first : (kind : ConstraintKind) → has_misused found ≡ true → found_of (Some CvcIdentityConstraint3) ≡ first_broken (checks names t identities kind found own below)
    misused-first kind e = rw e refl

    pub not-misused : (kind : ConstraintKind) → has_misused found ≡ false → first_broken (checks_by names t identities kind found own below) ≡ first_broken (checks names t identities kind found own below)
    not-misused kind e = rw e refl

    pub unique-broken : is_not_unique found ≡ true → found_of (Some CvcIdentityConstraint4_1) ≡ first_broken (checks_by names t identities Unique found own below)
    unique-broken e = rw e refl

    pub unique-holds : is_not_unique found ≡ false → found_of None ≡ first_broken (checks_by names t identities Unique found own below)
    unique-holds e = rw e refl

    pub key-lacks : has_lacking found ≡ true → found_of (Some CvcIdentityConstraint4_2_1) ≡ first_broken (checks_by names t identities Key found own below)
    key-lacks e = rw e refl

    pub key-repeats : has_lacking found ≡ false → is_no_key found ≡ true → found_of (Some CvcIdentityConstraint4_2_2) ≡ first_broken (checks_by names t identities Key found own below)
    key-repeats e f = rw (e, f) refl

    pub key-nillable : has_lacking found ≡ false → is_no_key found ≡ false → has_nillable found ≡ true → found_of (Some CvcIdentityConstraint4_2_3) ≡ first_broken (checks_by names t identities Key found own below)
    key-nillable e f g = rw (e, f, g) refl

    pub key-holds : has_lacking found ≡ false → is_no_key found ≡ false → has_nillable found ≡ false → found_of None ≡ first_broken (checks_by names t identities Key found own below)
    key-holds e f g = rw (e, f, g) refl

    pub keyref-broken : (key : ℕ) → has_unmatched names t identities key found own below ≡ true → found_of (Some CvcIdentityConstraint4_3) ≡ first_broken (checks_by names t identities (Keyref key) found own below)
    keyref-broken key e = rw e refl

    pub keyref-holds : (key : ℕ) → has_unmatched names t identities key found own below ≡ false → found_of None ≡ first_broken (checks_by names t identities (Keyref key) found own below)
    keyref-holds key e = rw e refl

  -- of a constraint that is there
  pub code-there : (k : ℕ) (part : Constraint) (read : Option Constraint) (own : KeyElement) (below : KeyForest) (code : Option Code) → read ≡ Some part
      → found_of code ≡ first_broken (checks names t identities part.kind (outcomes names t identities k own below) own below) → found_of code ≡ codes_by names t identities k read own below
  code-there k part read own below code is broken = broken ∙ ap (λ (o : Option Constraint). codes_by names t identities k o own below) (sym is)

  module _ (own : KeyElement) (below : KeyForest) where
    abbrev codes_for : ℕ → List Found
    codes_for k = codes_by names t identities k (slice_get t.constraints.parts k) own below

    pub codes-begun : (ks : List ℕ) (codes : List Found) → ks ≡ constraints_of t own → codes ≡ [] → flat_map codes_for (constraints_of t own) ≡ codes ++ flat_map codes_for ks
    codes-begun ks codes e empty = ap (flat_map codes_for) (sym e) ∙ ap (λ xs. xs ++ flat_map codes_for ks) (sym empty)

    pub codes-next : (all codes new : List Found) (k : ℕ) (left more : List ℕ) (code : Option Code) → all ≡ codes ++ flat_map codes_for left → left ≡ k ∷ more → found_of code ≡ codes_for k → new ≡ codes ++ found_of code
        → all ≡ new ++ flat_map codes_for more
    codes-next all codes new k left more code so e one put =
        so ∙ ap (λ ks. codes ++ flat_map codes_for ks) e ∙ ap (λ xs. codes ++ (xs ++ flat_map codes_for more)) (sym one) ∙ sym (append_assoc codes (found_of code) (flat_map codes_for more))
        ∙ ap (λ xs. xs ++ flat_map codes_for more) (sym put)

    pub codes-end : (left : List ℕ) (codes : List Found) → flat_map codes_for (constraints_of t own) ≡ codes ++ flat_map codes_for left → left ≡ [] → codes ≡ identity_codes names t identities own below
    unfolding identity_codes
    codes-end left codes so end = sym (so ∙ ap (λ ks. codes ++ flat_map codes_for ks) end ∙ append-nil codes)

  -- ---- of all elements

  pub all-length : (f : KeyForest) → length (all_codes names t identities f) ≡ size f
  all-length none = refl
  all-length (element own below next) =
      let one = all-length below in
      let two = all-length next in
      let all = length-append (all_codes names t identities below) (all_codes names t identities next) in
      omega (arith, one, two, all)

  first-codes : (f : KeyForest) (first : KeyElement) → IsFirst f first
      → all_codes names t identities f ≡ identity_codes names t identities first (below_first f) ∷ (all_codes names t identities (below_first f) ++ all_codes names t identities (behind_first f))
  first-codes none first is = absurd is
  first-codes (element own below next) first is = ap (λ (x : KeyElement). identity_codes names t identities x below ∷ (all_codes names t identities below ++ all_codes names t identities next)) is

  pub all-next : (f : KeyForest) (first : KeyElement) (start codes middle new : List (List Found)) (found : List Found) (all : KeyForest) → IsFirst f first
      → codes ++ all_codes names t identities f ≡ start ++ all_codes names t identities all → found ≡ identity_codes names t identities first (below_first f) → middle ≡ codes ++ found ∷ []
      → new ≡ middle ++ all_codes names t identities (below_first f) → new ++ all_codes names t identities (behind_first f) ≡ start ++ all_codes names t identities all
  all-next f first start codes middle new found all is so code put under =
      let below = all_codes names t identities (below_first f) in
      let behind = all_codes names t identities (behind_first f) in
      ap (λ xs. xs ++ behind) (under ∙ ap (λ xs. xs ++ below) put)
      ∙ append_assoc (codes ++ found ∷ []) below behind
      ∙ append_assoc codes (found ∷ []) (below ++ behind)
      ∙ ap (λ x. codes ++ x ∷ (below ++ behind)) code
      ∙ ap (λ xs. codes ++ xs) (sym (first-codes f first is))
      ∙ so

  pub all-end : (f all : KeyForest) (start codes : List (List Found)) → f ≡ none → codes ++ all_codes names t identities f ≡ start ++ all_codes names t identities all → codes ≡ start ++ all_codes names t identities all
  all-end f all start codes e so = sym (append-nil codes) ∙ ap (λ (g : KeyForest). codes ++ all_codes names t identities g) (sym e) ∙ so

-- ---- the key that a keyref refers to

get-mapped : (parts : List Constraint) (k : ℕ) (part : Constraint) → slice_get parts k ≡ Some part → option_and_then (λ (o : Option ℕ). o) (slice_get (map key_in parts) k) ≡ key_in part
get-mapped [] k part e = absurd (none-some e)
  where
    none-some : None ≡ Some part → ⊥
    none-some h = cc
get-mapped (c ∷ cs) zero part e = ap key_in (some-part c part e)
  where
    some-part : (a b : Constraint) → Some a ≡ Some b → a ≡ b
    some-part a b h = cc
get-mapped (c ∷ cs) (suc k) part e = get-mapped cs k part e

pub key-there : (parts : List Constraint) (refs : References) (k key : ℕ) (part : Constraint) (kind : ConstraintKind) → AreReferencesOf parts refs → slice_get parts k ≡ Some part → part.kind ≡ kind → kind ≡ Keyref key
    → key_of refs k ≡ Some key
key-there parts refs k key part kind are there is keyref =
    ap (λ (xs : List (Option ℕ)). option_and_then (λ (o : Option ℕ). o) (slice_get xs k)) are.refers_are ∙ get-mapped parts k part there ∙ ap referred (is ∙ keyref)
