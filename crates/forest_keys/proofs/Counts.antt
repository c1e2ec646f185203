-- What is counted of the targets of elements, place by place.
use Rattle.std.proofs.Common.{◌≡◌, ◌⊎◌, ◌+◌, ◌<◌, ◌≤◌, ◌&&◌, ◌||◌, ℕ, Bool, true, false, if◌then◌else◌, nat_eq, List, [], ◌∷◌, ◌++◌, inl, inr, Option, None, Some, refl, sym, ap, ◌∙◌, arith, true≢false}
use Rattle.std.specs.Option.{option_to_list}
use Rattle.std.proofs.lemmas.Bool.{eqb-true, eq-eqb}
use Rattle.std.proofs.lemmas.List.Recursion.{is_count_by}
use Rattle.simple_values.specs.declared.key.Key.{Key}
use Rattle.xs_names.specs.Names.{NameTable}
use Rattle.xs_components.specs.Tables.{Tables}
use Rattle.xpath_subset.specs.declared.paths.IdentityPaths.{IdentityPaths}
use Rattle.identity_tables.specs.Tuple.{same_tuple}
use Rattle.identity_constraints.proofs.Bearers.{same_or_other}
use Rattle.key_records.proofs.CarriedEntryLaws.{tuple_decides}
use Rattle.identity_constraints.specs.Seen.{KeyElement, KeyForest, none, element}
use Rattle.identity_constraints.specs.Targets.{Outcome, constraints_of, has_constraint, outcomes}
use Rattle.identity_constraints.specs.Satisfied.{tuples_in}
use Rattle.key_records.specs.Views.{times}
use Rattle.path_walk.specs.inside.Walk.{size}
use Rattle.key_records.specs.Counted.{Counted, Feature, has, has_keys, no_targets, one_target, with_keys}
use Rattle.key_records.specs.Faults.{weight}
use Rattle.forest_keys.specs.inside.Found.{count_in, targets_of, has_number, targets_first, targets_for, targets_at, targets_along}

off-eq : (m n : ℕ) (b : Bool) → nat_eq m n ≡ b → (m ≡ n → ⊥) → nat_eq m n ≡ false
off-eq m n true e off = absurd (off (eqb-true m n e))
off-eq m n false e off = e

one-here : (place k : ℕ) (o : Outcome) (x : Feature) → one_target place k o.tuple o.misused o.nillable place k x ≡ weight (has x o.tuple o.misused o.nillable)
one-here place k o x = ap weight (λ i. eq-eqb place place refl i && (eq-eqb k k refl i && has x o.tuple o.misused o.nillable))

and-off : (a b c : Bool) → (a ≡ true → b ≡ true → ⊥) → weight (a && (b && c)) ≡ 0
and-off false b c off = refl
and-off true false c off = refl
and-off true true c off = absurd (off refl refl)

one-off : (place k : ℕ) (o : Outcome) (n j : ℕ) (x : Feature) → (place ≡ n → k ≡ j → ⊥) → one_target place k o.tuple o.misused o.nillable n j x ≡ 0
one-off place k o n j x off = and-off (nat_eq place n) (nat_eq k j) (has x o.tuple o.misused o.nillable) (λ a b. off (eqb-true place n a) (eqb-true k j b))

sum : (a b c d : ℕ) → a ≡ c → b ≡ d → a + b ≡ c + d
sum a b c d e f = λ i. e i + f i

targets-here : (place k : ℕ) (os : List Outcome) (x : Feature) → targets_of place k os place k x ≡ count_in os x
targets-here place k [] x = refl
targets-here place k (o ∷ os) x = sum _ _ _ _ (one-here place k o x) (targets-here place k os x)

none-and : (a b : ℕ) → a ≡ 0 → b ≡ 0 → a + b ≡ 0
none-and a b e f = omega (arith, e, f)

targets-off : (place k : ℕ) (os : List Outcome) (n j : ℕ) (x : Feature) → (place ≡ n → k ≡ j → ⊥) → targets_of place k os n j x ≡ 0
targets-off place k [] n j x off = refl
targets-off place k (o ∷ os) n j x off = none-and _ _ (one-off place k o n j x off) (targets-off place k os n j x off)

module _ (names : NameTable) (t : Tables) (identities : List IdentityPaths) where
  abbrev found : ℕ → KeyElement → KeyForest → List Outcome
  found k own below = outcomes names t identities k own below

  first-off : (place k : ℕ) (ks : List ℕ) (own : KeyElement) (below : KeyForest) (n j : ℕ) (x : Feature) → (place ≡ n → k ≡ j → ⊥) → targets_first names t identities place k ks own below n j x ≡ 0
  first-off place k ks own below n j x off = by (has_number k ks)
    where
      by : (b : Bool) → (if b then no_targets else targets_of place k (found k own below)) n j x ≡ 0
      by true = refl
      by false = targets-off place k (found k own below) n j x off

  for-off : (place : ℕ) (ks : List ℕ) (own : KeyElement) (below : KeyForest) (n j : ℕ) (x : Feature) → (place ≡ n → ⊥) → targets_for names t identities place ks own below n j x ≡ 0
  for-off place [] own below n j x off = refl
  for-off place (k ∷ ks) own below n j x off = none-and _ _ (first-off place k ks own below n j x (λ e h. off e)) (for-off place ks own below n j x off)

  abbrev counted_if : Bool → ℕ → KeyElement → KeyForest → Feature → ℕ
  counted_if b j own below x = if b then count_in (found j own below) x else 0

  module _ (place k : ℕ) (ks : List ℕ) (own : KeyElement) (below : KeyForest) (j : ℕ) (x : Feature) (rest : targets_for names t identities place ks own below place j x ≡ counted_if (has_number j ks) j own below x) where
    with-zero : (a b c : ℕ) → a ≡ 0 → b ≡ c → a + b ≡ c
    with-zero a b c e f = omega (arith, e, f)

    with-none : (a b c : ℕ) → a ≡ c → b ≡ 0 → a + b ≡ c
    with-none a b c e f = omega (arith, e, f)

    told : k ≡ j → counted_if (has_number j (k ∷ ks)) j own below x ≡ count_in (found j own below) x
    told e = ap (λ b. counted_if (b || has_number j ks) j own below x) (eq-eqb k j e)

    same : k ≡ j → (b : Bool) → has_number k ks ≡ b → targets_for names t identities place (k ∷ ks) own below place j x ≡ counted_if (has_number j (k ∷ ks)) j own below x
    same e true is =
        with-zero _ _ (count_in (found j own below) x) (ap (λ b. (if b then no_targets else targets_of place k (found k own below)) place j x) is)
        (rest ∙ ap (λ b. counted_if b j own below x) (ap (λ (i : ℕ). has_number i ks) (sym e) ∙ is))
        ∙ sym (told e)
    same e false is =
        with-none _ _ (count_in (found j own below) x)
        (ap (λ b. (if b then no_targets else targets_of place k (found k own below)) place j x) is ∙ ap (λ (i : ℕ). targets_of place i (found i own below) place j x) e ∙ targets-here place j (found j own below) x)
        (rest ∙ ap (λ b. counted_if b j own below x) (ap (λ (i : ℕ). has_number i ks) (sym e) ∙ is))
        ∙ sym (told e)

    more-here : targets_for names t identities place (k ∷ ks) own below place j x ≡ counted_if (has_number j (k ∷ ks)) j own below x
    more-here =
        elim (same_or_other k j) [
          | inl e ↦ same e (has_number k ks) refl
          | inr off ↦
              with-zero _ _ (counted_if (has_number j ks) j own below x) (first-off place k ks own below place j x (λ a b. off b)) rest
              ∙ ap (λ b. counted_if (b || has_number j ks) j own below x) (sym (off-eq k j (nat_eq k j) refl off))
        ]

  for-here : (place : ℕ) (ks : List ℕ) (own : KeyElement) (below : KeyForest) (j : ℕ) (x : Feature) → targets_for names t identities place ks own below place j x ≡ counted_if (has_number j ks) j own below x
  for-here place [] own below j x = refl
  for-here place (k ∷ ks) own below j x = more-here place k ks own below j x (for-here place ks own below j x)

  -- an element has no targets for the constraints of others
  none-of-others : (k : ℕ) (own : KeyElement) (below : KeyForest) → has_constraint names t identities k own ≡ false → found k own below ≡ []
  unfolding outcomes
  none-of-others k own below e = rw e refl

  pub at-here : (place : ℕ) (own : KeyElement) (below : KeyForest) (j : ℕ) (x : Feature) → targets_at names t identities place own below place j x ≡ count_in (found j own below) x
  at-here place own below j x = for-here place (constraints_of t own) own below j x ∙ by (has_constraint names t identities j own) refl
    where
      by : (b : Bool) → has_constraint names t identities j own ≡ b → counted_if b j own below x ≡ count_in (found j own below) x
      by true e = refl
      by false e = sym (ap (λ os. count_in os x) (none-of-others j own below e))

  pub along-off : (q : ℕ) (g : KeyForest) (n j : ℕ) (x : Feature) → (n < q) ⊎ (q + size g ≤ n) → targets_along names t identities q g n j x ≡ 0
  along-off q none n j x out = refl
  along-off q (element own below next) n j x out =
      none-and _ _ (for-off q (constraints_of t own) own below n j x (λ e. elim out [ inl h ↦ absurd (omega (arith, h, e)) | inr h ↦ absurd (omega (arith, h, e)) ]))
      (none-and _ _ (along-off (q + 1) below n j x (elim out [ inl h ↦ inl (omega (arith, h)) | inr h ↦ inr (omega (arith, h)) ]))
      (along-off (q + 1 + size below) next n j x (elim out [ inl h ↦ inl (omega (arith, h)) | inr h ↦ inr (omega (arith, h)) ])))

  -- ---- part by part

  module _ (q : ℕ) (own : KeyElement) (below next : KeyForest) where
    abbrev all : Counted
    all = targets_along names t identities q (element own below next)

    first-only : (a b c : ℕ) → b ≡ 0 → c ≡ 0 → a + (b + c) ≡ a
    first-only a b c e f = omega (arith, e, f)

    second-only : (a b c : ℕ) → a ≡ 0 → c ≡ 0 → a + (b + c) ≡ b
    second-only a b c e f = omega (arith, e, f)

    third-only : (a b c : ℕ) → a ≡ 0 → b ≡ 0 → a + (b + c) ≡ c
    third-only a b c e f = omega (arith, e, f)

    pub of-first : (k : ℕ) (x : Feature) → all q k x ≡ count_in (found k own below) x
    of-first k x =
        first-only _ _ _ (along-off (q + 1) below q k x (inl (omega arith))) (along-off (q + 1 + size below) next q k x (inl (omega arith)))
        ∙ at-here q own below k x

    pub of-below : (n k : ℕ) (x : Feature) → q + 1 ≤ n → n < q + 1 + size below → all n k x ≡ targets_along names t identities (q + 1) below n k x
    of-below n k x h l =
        second-only _ _ _ (for-off q (constraints_of t own) own below n k x (λ e. absurd (omega (arith, h, e)))) (along-off (q + 1 + size below) next n k x (inl l))

    pub of-next : (n k : ℕ) (x : Feature) → q + 1 + size below ≤ n → all n k x ≡ targets_along names t identities (q + 1 + size below) next n k x
    of-next n k x h =
        third-only _ _ _ (for-off q (constraints_of t own) own below n k x (λ e. absurd (omega (arith, h, e)))) (along-off (q + 1) below n k x (inr h))

-- ---- how often a key-sequence is there

abbrev tally : (List Key → Bool) → List (List Key) → ℕ
tally p [] = 0
tally p (x ∷ xs) = if p x then 1 + tally p xs else tally p xs

pub times-cons : (tuple other : List Key) (tuples : List (List Key)) → times tuple (other ∷ tuples) ≡ weight (same_tuple tuple other) + times tuple tuples
times-cons tuple other tuples =
    let is = is_count_by (tally (same_tuple tuple)) (same_tuple tuple) refl (λ x xs. refl) in
    sym (is (other ∷ tuples)) ∙ by (same_tuple tuple other) ∙ ap (λ (n : ℕ). weight (same_tuple tuple other) + n) (is tuples)
  where
    by : (b : Bool) → (if b then 1 + tally (same_tuple tuple) tuples else tally (same_tuple tuple) tuples) ≡ weight b + tally (same_tuple tuple) tuples
    by true = refl
    by false = omega arith

turn : (a b : List Key) → same_tuple a b ≡ same_tuple b a
turn a b = by (same_tuple a b) (same_tuple b a) refl refl
  where
    by : (x y : Bool) → same_tuple a b ≡ x → same_tuple b a ≡ y → x ≡ y
    by true true e f = refl
    by false false e f = refl
    by true false e f = absurd (true≢false (sym ((tuple_decides b a).1 (sym ((tuple_decides a b).0 e))) ∙ f))
    by false true e f = absurd (true≢false (sym ((tuple_decides a b).1 (sym ((tuple_decides b a).0 f))) ∙ e))

pub keys-counted : (os : List Outcome) (tuple : List Key) → count_in os (with_keys tuple) ≡ times tuple (tuples_in os)
keys-counted [] tuple = refl
keys-counted (o ∷ os) tuple = by (keys-counted os tuple) o.tuple
  where
    by : count_in os (with_keys tuple) ≡ times tuple (tuples_in os) → (own : Option (List Key)) → weight (has_keys own tuple) + count_in os (with_keys tuple) ≡ times tuple (option_to_list own ++ tuples_in os)
    by rest None = (let same : 0 + count_in os (with_keys tuple) ≡ count_in os (with_keys tuple) = omega arith in same) ∙ rest
    by rest (Some other) = (λ i. weight (turn other tuple i) + rest i) ∙ sym (times-cons tuple other (tuples_in os))
