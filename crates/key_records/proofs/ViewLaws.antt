-- Counts of tuples under the numbers of elements.
use Rattle.std.proofs.Common.{◌≡◌, ℕ, ◌+◌, ◌<◌, ◌≤◌, ◌==◌, ◌||◌, ◌⊎◌, inl, inr, Bool, true, false, if◌then◌else◌, List, [], ◌∷◌, refl, sym, ap, ◌∙◌, subst, arith, true≢false}
use Rattle.std.specs.Prelude.{nat_lt}
use Rattle.std.specs.List.{list_any, count_by}
use Rattle.std.proofs.lemmas.Bool.Decides.{nat_tests}
use Rattle.std.proofs.lemmas.List.Recursion.{is_count_by}
use Rattle.std.proofs.lemmas.Bool.{or_left, or_right}
use Rattle.xs_names.specs.Names.{NameTable}
use Rattle.simple_values.specs.declared.key.Key.{Key}
use Rattle.xs_components.specs.Tables.{Tables}
use Rattle.xpath_subset.specs.declared.paths.IdentityPaths.{IdentityPaths}
use Rattle.identity_tables.specs.Tuple.{same_tuple}
use Rattle.identity_constraints.specs.Counting.{Numbers, none as no_numbers, node, bearing as bearing_at, is_visible as is_seen_at}
use Rattle.key_records.specs.Tables.{KeyTuple, for_key}
use Rattle.key_records.proofs.CarriedEntryLaws.{tuple_decides}
use Rattle.identity_constraints.specs.Seen.{KeyElement, KeyForest, none, element}
use Rattle.identity_constraints.specs.Satisfied.{own_tuples, has_tuple, has_repeated, bearing, is_visible}
use Rattle.key_records.specs.Views.{times, IsCounted, AreCounted}

abbrev tally : (List Key → Bool) → List (List Key) → ℕ
tally p [] = 0
tally p (x ∷ xs) = if p x then 1 + tally p xs else tally p xs

-- one tuple more
step : (tuple other : List Key) (tuples : List (List Key)) → times tuple (other ∷ tuples) ≡ (if same_tuple tuple other then 1 + times tuple tuples else times tuple tuples)
step tuple other tuples =
    let is = is_count_by (tally (same_tuple tuple)) (same_tuple tuple) refl (λ x xs. refl) in
    sym (is (other ∷ tuples)) ∙ ap (λ (n : ℕ). if same_tuple tuple other then 1 + n else n) (is tuples)

one-more : (b : Bool) (n more : ℕ) (rest : Bool) → more ≡ (if b then 1 + n else n) → nat_lt 0 n ≡ rest → nat_lt 0 more ≡ (b || rest)
one-more true n more rest is e = grind (arith, nat_tests)
one-more false n more rest is e = ap (nat_lt 0) is ∙ e

-- one is there where some are counted
counted : (tuple : List Key) (tuples : List (List Key)) → nat_lt 0 (times tuple tuples) ≡ has_tuple tuple tuples
counted tuple [] = refl
counted tuple (other ∷ tuples) =
    one-more (same_tuple tuple other) (times tuple tuples) (times tuple (other ∷ tuples)) (has_tuple tuple tuples) (step tuple other tuples) (counted tuple tuples)

module _ (names : NameTable) (t : Tables) (identities : List IdentityPaths) (own : ℕ → KeyTuple → ℕ) (k : ℕ) (tuple : List Key) where
  seen-at : (n : ℕ) (under : Numbers) (e : KeyElement) (below : KeyForest) → IsCounted names t identities own n e below → bearing_at own (for_key k tuple) under ≡ bearing names t identities k tuple below →
      is_seen_at own (for_key k tuple) n under ≡ is_visible names t identities k tuple e below
  seen-at n under e below here same =
      let owns = ap (nat_lt 0) (here k tuple) ∙ counted tuple (own_tuples names t identities k e below) in
      λ i. owns i || (same i == 1)

  pub bearing-is : (ns : Numbers) (f : KeyForest) → AreCounted names t identities own ns f → bearing_at own (for_key k tuple) ns ≡ bearing names t identities k tuple f
  bearing-is no_numbers none all = refl
  bearing-is no_numbers (element e below next) all = absurd all
  bearing-is (node n under behind) none all = absurd all
  bearing-is (node n under behind) (element e below next) all =
      let here = seen-at n under e below all.0 (bearing-is under below all.1) in
      let rest = bearing-is behind next all.2 in
      λ i. (if here i then 1 else 0) + rest i

  pub visible-is : (n : ℕ) (under : Numbers) (e : KeyElement) (below : KeyForest) → IsCounted names t identities own n e below → AreCounted names t identities own under below →
      is_seen_at own (for_key k tuple) n under ≡ is_visible names t identities k tuple e below
  visible-is n under e below here all = seen-at n under e below here (bearing-is under below all)

-- ---- two equal ones

or-cases : (a b : Bool) → (a || b) ≡ true → (a ≡ true) ⊎ (b ≡ true)
or-cases true b e = inl refl
or-cases false b e = inr e

same-itself : (tuple : List Key) → same_tuple tuple tuple ≡ true
same-itself tuple = (tuple_decides tuple tuple).1 refl

with-one : (b : Bool) (n more m : ℕ) → more ≡ (if b then 1 + n else n) → b ≡ true → m ≤ n → m + 1 ≤ more
with-one true n more m is e h = omega (arith, is, h)
with-one false n more m is e h = absurd (true≢false (sym e))

with-more : (b : Bool) (n more m : ℕ) → more ≡ (if b then 1 + n else n) → m ≤ n → m ≤ more
with-more true n more m is h = omega (arith, is, h)
with-more false n more m is h = omega (arith, is, h)

some-there : (tuple : List Key) (tuples : List (List Key)) → has_tuple tuple tuples ≡ true → 1 ≤ times tuple tuples
some-there tuple tuples e = let there : nat_lt 0 (times tuple tuples) ≡ true = counted tuple tuples ∙ e in grind (arith, nat_tests)

pub counted-twice : (tuples : List (List Key)) → has_repeated tuples ≡ true → (tuple : List Key) × (2 ≤ times tuple tuples)
counted-twice [] e = absurd (true≢false (sym e))
counted-twice (tuple ∷ tuples) e =
    elim (or-cases (has_tuple tuple tuples) (has_repeated tuples) e) [
      | inl here ↦ (tuple, with-one (same_tuple tuple tuple) (times tuple tuples) (times tuple (tuple ∷ tuples)) 1 (step tuple tuple tuples) (same-itself tuple) (some-there tuple tuples here))
      | inr later ↦ let found = counted-twice tuples later in (found.0, with-more (same_tuple found.0 tuple) (times found.0 tuples) (times found.0 (tuple ∷ tuples)) 2 (step found.0 tuple tuples) found.1)
    ]

there-some : (tuple : List Key) (tuples : List (List Key)) → 1 ≤ times tuple tuples → has_tuple tuple tuples ≡ true
there-some tuple tuples h = sym (counted tuple tuples) ∙ grind (arith, nat_tests)

repeated-by : (tuple other : List Key) (tuples : List (List Key)) (b : Bool) → same_tuple tuple other ≡ b → (more : ℕ) → more ≡ (if b then 1 + times tuple tuples else times tuple tuples) → 2 ≤ more →
    (2 ≤ times tuple tuples → has_repeated tuples ≡ true) → has_repeated (other ∷ tuples) ≡ true
repeated-by tuple other tuples true e more is h later =
    let same : tuple ≡ other = (tuple_decides tuple other).0 e in
    or_left (has_tuple other tuples) (has_repeated tuples) (subst (λ x. has_tuple x tuples ≡ true) same (there-some tuple tuples (omega (arith, is, h))))
repeated-by tuple other tuples false e more is h later = or_right (has_tuple other tuples) (has_repeated tuples) (later (omega (arith, is, h)))

pub twice-there : (tuple : List Key) (tuples : List (List Key)) → 2 ≤ times tuple tuples → has_repeated tuples ≡ true
twice-there tuple [] h = absurd (omega (arith, h))
twice-there tuple (other ∷ tuples) h =
    repeated-by tuple other tuples (same_tuple tuple other) refl (times tuple (other ∷ tuples)) (step tuple other tuples) h (twice-there tuple tuples)
