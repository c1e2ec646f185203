-- What records say of constraints is what identity constraints ask.
use Rattle.std.proofs.Common.{◌≡◌, ◌⊎◌, ◌+◌, ◌≤◌, ◌||◌, ℕ, Bool, true, false, List, [], ◌∷◌, inl, inr, refl, sym, ap, subst, ◌∙◌, arith, true≢false}
use Rattle.std.specs.Prelude.{nat_lt, not, IsTrue, ◌↔◌}
use Rattle.std.specs.List.{list_any}
use Rattle.std.proofs.lemmas.Bool.{or_left, or_right}
use Rattle.std.proofs.lemmas.Bool.Decides.{nat_tests}
use Rattle.simple_values.specs.declared.key.Key.{Key}
use Rattle.xs_names.specs.Names.{NameTable}
use Rattle.xs_components.specs.Tables.{Tables}
use Rattle.xpath_subset.specs.declared.paths.IdentityPaths.{IdentityPaths}
use Rattle.identity_tables.specs.Tuple.{same_tuple}
use Rattle.identity_constraints.specs.Counting.{is_visible as is_seen_at}
use Rattle.key_records.specs.Tables.{for_key}
use Rattle.key_records.proofs.CarriedEntryLaws.{tuple_decides}
use Rattle.identity_constraints.specs.Seen.{KeyElement, KeyForest}
use Rattle.identity_constraints.specs.Targets.{Outcome, outcomes}
use Rattle.identity_constraints.specs.Satisfied.{tuples_in, has_repeated, is_visible, has_unmatched}
use Rattle.key_records.specs.Views.{times}
use Rattle.key_records.proofs.ViewLaws.{visible-is, counted-twice, twice-there}
use Rattle.key_records.specs.Counted.{Feature, has, own_tuples, with_keys}
use Rattle.key_records.specs.Faults.{weight}
use Rattle.key_records.specs.declared.records.KeyRecords.{KeyRecords}
use Rattle.key_records.specs.declared.records.KeyTree.{KeyTree}
use Rattle.forest_keys.specs.inside.Found.{count_in}
use Rattle.forest_keys.specs.inside.Records.{AreFilledAt}
use Rattle.forest_keys.proofs.Counts.{keys-counted, times-cons}

same-test : {P : Type 0} (a b : Bool) → IsTrue a ↔ P → IsTrue b ↔ P → a ≡ b
same-test true true p q = refl
same-test true false p q = sym (q.1 (p.0 refl))
same-test false true p q = p.1 (q.0 refl)
same-test false false p q = refl

-- some have it where some are counted
pub some-counted : (os : List Outcome) (x : Feature) → nat_lt 0 (count_in os x) ≡ list_any (λ (o : Outcome). has x o.tuple o.misused o.nillable) os
some-counted [] x = refl
some-counted (o ∷ os) x = by (has x o.tuple o.misused o.nillable) (count_in os x) (list_any (λ (o : Outcome). has x o.tuple o.misused o.nillable) os) (some-counted os x)
  where
    by : (b : Bool) (n : ℕ) (rest : Bool) → nat_lt 0 n ≡ rest → nat_lt 0 (weight b + n) ≡ (b || rest)
    by true n rest e = grind (arith, nat_tests)
    by false n rest e = (let same : 0 + n ≡ n = omega arith in ap (nat_lt 0) same) ∙ e

-- ---- of the key-sequences

itself : (tuple : List Key) → same_tuple tuple tuple ≡ true
itself tuple = (tuple_decides tuple tuple).1 refl

or-cases : (a b : Bool) → (a || b) ≡ true → (a ≡ true) ⊎ (b ≡ true)
or-cases true b e = inl refl
or-cases false b e = inr e

any-there : (p : List Key → Bool) (xs : List (List Key)) → list_any p xs ≡ true → (tuple : List Key) × (1 ≤ times tuple xs) × (p tuple ≡ true)
any-there p [] e = absurd (true≢false (sym e))
any-there p (x ∷ xs) e =
    elim (or-cases (p x) (list_any p xs) e) [
      | inl here ↦ (let cons = times-cons x x xs in let one = ap weight (itself x) in (x, omega (arith, cons, one), here))
      | inr later ↦ (let found = any-there p xs later in let cons = times-cons found.0 x xs in let some = found.1 in (found.0, omega (arith, cons, some), found.2))
    ]

there-any : (p : List Key → Bool) (xs : List (List Key)) (tuple : List Key) → 1 ≤ times tuple xs → p tuple ≡ true → list_any p xs ≡ true
there-any p [] tuple some e = absurd (omega (arith, some))
there-any p (x ∷ xs) tuple some e = by (there-any p xs tuple) (same_tuple tuple x) refl
  where
    by : (1 ≤ times tuple xs → p tuple ≡ true → list_any p xs ≡ true) → (b : Bool) → same_tuple tuple x ≡ b → list_any p (x ∷ xs) ≡ true
    by rest true is = or_left (p x) (list_any p xs) (subst (λ y. p y ≡ true) ((tuple_decides tuple x).0 is) e)
    by rest false is =
        let cons = times-cons tuple x xs in let nothing = ap weight is in
        or_right (p x) (list_any p xs) (rest (omega (arith, cons, nothing, some)) e)

not-true : (b : Bool) → not b ≡ true → b ≡ false
not-true true e = absurd (true≢false (sym e))
not-true false e = refl

module _ (names : NameTable) (s : Tables) (identities : List IdentityPaths) (tree : KeyTree) (r : KeyRecords) (place : ℕ) (own : KeyElement) (below : KeyForest) (filled : AreFilledAt names s identities tree r place own below) where
  abbrev found : ℕ → List Outcome
  found k = outcomes names s identities k own below

  own-counted : (k : ℕ) (tuple : List Key) → filled.c place k (with_keys tuple) ≡ times tuple (tuples_in (found k))
  own-counted k tuple = filled.here k (with_keys tuple) ∙ keys-counted (found k) tuple

  pub faulty : (k : ℕ) (x : Feature) (told : Bool) → told ≡ nat_lt 0 (filled.c place k x) → told ≡ list_any (λ (o : Outcome). has x o.tuple o.misused o.nillable) (found k)
  faulty k x told is = is ∙ ap (nat_lt 0) (filled.here k x) ∙ some-counted (found k) x

  pub repeated : (k : ℕ) (told : Bool) → IsTrue told ↔ ((tuple : List Key) × (2 ≤ filled.c place k (with_keys tuple))) → told ≡ has_repeated (tuples_in (found k))
  repeated k told iff =
      same-test told (has_repeated (tuples_in (found k)))
      (λ e. let twice = iff.0 e in (twice.0, subst (λ (n : ℕ). 2 ≤ n) (own-counted k twice.0) twice.1), λ twice. iff.1 (twice.0, subst (λ (n : ℕ). 2 ≤ n) (sym (own-counted k twice.0)) twice.1))
      (counted-twice (tuples_in (found k)), λ twice. twice-there twice.0 (tuples_in (found k)) twice.1)

  visible : (key : ℕ) (tuple : List Key) → is_seen_at (own_tuples filled.c) (for_key key tuple) place filled.under ≡ is_visible names s identities key tuple own below
  visible key tuple = visible-is names s identities (own_tuples filled.c) key tuple place filled.under own below own-counted filled.there

  pub unmatched : (keyref key : ℕ) (told : Bool)
      → IsTrue told ↔ ((tuple : List Key) × (1 ≤ filled.c place keyref (with_keys tuple)) × (is_seen_at (own_tuples filled.c) (for_key key tuple) place filled.under ≡ false))
      → told ≡ has_unmatched names s identities key (found keyref) own below
  unmatched keyref key told iff =
      same-test told (has_unmatched names s identities key (found keyref) own below) iff (
        λ e.
            let there = any-there (λ tuple. not (is_visible names s identities key tuple own below)) (tuples_in (found keyref)) e in
            (there.0, subst (λ (n : ℕ). 1 ≤ n) (sym (own-counted keyref there.0)) there.1, visible key there.0 ∙ not-true (is_visible names s identities key there.0 own below) there.2),
        λ there.
            there-any (λ tuple. not (is_visible names s identities key tuple own below)) (tuples_in (found keyref)) there.0 (subst (λ (n : ℕ). 1 ≤ n) (own-counted keyref there.0) there.1)
            (ap not (sym (visible key there.0) ∙ there.2)),
      )
