-- One target more in the records, or one less, and what they say of constraints.
use Rattle.std.proofs.Common.{◌≡◌, ◌⊎◌, ◌+◌, ◌*◌, ◌≤◌, ◌&&◌, ℕ, Bool, true, false, List, [], ◌∷◌, Option, None, Some, inl, inr, nat_eq, refl, sym, ap, subst, ◌∙◌, arith, true≢false}
use Rattle.std.specs.Prelude.{nat_lt, not, is_none, IsTrue, ◌↔◌}
use Rattle.std.specs.Option.{SomeIff, is_some}
use Rattle.std.proofs.lemmas.Bool.{eqb-true, eq-eqb}
use Rattle.std.proofs.lemmas.Bool.Decides.{nat_tests}
use Rattle.xs_codes.specs.declared.code.Code.{Code}
use Rattle.simple_values.specs.declared.key.Key.{Key}
use Rattle.identity_tables.specs.KeyTables.{Tables, own_count}
use Rattle.identity_constraints.specs.Counting.{Links, Numbers, none, node, Has, firsts, StandFor, is_seen, bearers, bearing, is_visible, seen}
use Rattle.identity_constraints.proofs.Bearers.{same_or_other, bearers-alike}
use Rattle.identity_constraints.proofs.Exact.{seen_is}
use Rattle.key_records.specs.Tables.{KeyTuple, AreSettled, for_key, own, said, same_key_tuple}
use Rattle.key_records.proofs.CarriedEntryLaws.{decides}
use Rattle.key_records.specs.Counted.{Counted, plus, one_target, no_targets, own_tuples, with_keys, with_misuse, without_keys, with_nillable}
use Rattle.key_records.specs.Faults.{AreMoreFaults, faults_at, no_faults, weight}
use Rattle.key_records.specs.References.{AreReferences, key_of, keyrefs_of, is_referred, has_any}
use Rattle.key_records.specs.Records.{own_in, own_of, is_shown, unmatched, AreBare, AreOnce, AreMatched, AreRecords, IsOneMoreTarget}
use Rattle.key_records.specs.declared.faults.Faults.{Faults}
use Rattle.key_records.specs.declared.faults.TargetFaults.{TargetFaults}
use Rattle.key_records.specs.declared.faults.FaultCounts.{FaultCounts}
use Rattle.key_records.specs.declared.references.References.{References}
use Rattle.key_records.specs.declared.records.KeyRecords.{KeyRecords}

-- ---- faults, by one of their numbers

abbrev has_fault : ℕ → ℕ → Bool → ℕ → ℕ → ℕ
has_fault scope k fault n j = weight (nat_eq scope n && (nat_eq k j && fault))

-- whether it is this key-sequence of this constraint of this element
abbrev is_it : ℕ → ℕ → List Key → ℕ → ℕ → List Key → Bool
is_it scope k tuple n j other = nat_eq scope n && same_key_tuple (for_key k tuple) (for_key j other)

and-off : (a b : Bool) (f : Bool) → (a ≡ true → b ≡ true → ⊥) → weight (a && (b && f)) ≡ 0
and-off false b f off = refl
and-off true false f off = refl
and-off true true f off = absurd (off refl refl)

fault-here : (scope k : ℕ) (f : Bool) → has_fault scope k f scope k ≡ weight f
fault-here scope k f = ap weight (λ i. eq-eqb scope scope refl i && (eq-eqb k k refl i && f))

fault-off : (scope k : ℕ) (f : Bool) (n j : ℕ) → (scope ≡ n → k ≡ j → ⊥) → has_fault scope k f n j ≡ 0
fault-off scope k f n j off = and-off (nat_eq scope n) (nat_eq k j) f (λ a b. off (eqb-true scope n a) (eqb-true k j b))

spot-or-not : (scope k n j : ℕ) → ((scope ≡ n) × (k ≡ j)) ⊎ (scope ≡ n → k ≡ j → ⊥)
spot-or-not scope k n j =
    elim (same_or_other scope n) [
      | inl a ↦ elim (same_or_other k j) [ inl b ↦ inl (a, b) | inr off ↦ inr (λ x y. off y) ]
      | inr off ↦ inr (λ x y. off x)
    ]

with-zero : (a b w : ℕ) → a ≡ b → w ≡ 0 → a ≡ b + w
with-zero a b w e f = omega (arith, e, f)

-- a number of them after one target more
module _ (pick : Faults → ℕ) (fault : Bool) (fewer more : FaultCounts) (scope k : ℕ) (found : TargetFaults) (grown : AreMoreFaults fewer more scope k found)
    (picked : pick (faults_at more scope k) ≡ pick (faults_at fewer scope k) + weight fault) where
  pub number-more : (n j : ℕ) → pick (faults_at more n j) ≡ pick (faults_at fewer n j) + has_fault scope k fault n j
  number-more n j =
      elim (spot-or-not scope k n j) [
        | inl is ↦ subst (λ (m : ℕ). pick (faults_at more m j) ≡ pick (faults_at fewer m j) + has_fault scope k fault m j) is.0
            (subst (λ (i : ℕ). pick (faults_at more scope i) ≡ pick (faults_at fewer scope i) + has_fault scope k fault scope i) is.1
            (picked ∙ ap (λ (w : ℕ). pick (faults_at fewer scope k) + w) (sym (fault-here scope k fault))))
        | inr off ↦ with-zero (pick (faults_at more n j)) (pick (faults_at fewer n j)) (has_fault scope k fault n j) (ap pick (grown.others n j off)) (fault-off scope k fault n j off)
      ]

module _ (fewer more : FaultCounts) (scope k : ℕ) (found : TargetFaults) (grown : AreMoreFaults fewer more scope k found) where
  pub misused-more : (n j : ℕ) → (faults_at more n j).misused ≡ (faults_at fewer n j).misused + has_fault scope k found.misused n j
  misused-more = number-more (λ (f : Faults). f.misused) found.misused fewer more scope k found grown (ap (λ (f : Faults). f.misused) grown.here)

  pub lacking-more : (n j : ℕ) → (faults_at more n j).lacking ≡ (faults_at fewer n j).lacking + has_fault scope k found.lacking n j
  lacking-more = number-more (λ (f : Faults). f.lacking) found.lacking fewer more scope k found grown (ap (λ (f : Faults). f.lacking) grown.here)

  pub nillable-more : (n j : ℕ) → (faults_at more n j).nillable ≡ (faults_at fewer n j).nillable + has_fault scope k found.nillable n j
  nillable-more = number-more (λ (f : Faults). f.nillable) found.nillable fewer more scope k found grown (ap (λ (f : Faults). f.nillable) grown.here)

less : (a b w : ℕ) → a + w ≡ b + w → a ≡ b
less a b w e = omega (arith, e)

-- ---- one target more

-- without a key-sequence
module _ (t : Links) (refs : References) (c : Counted) (old : KeyRecords) (faults : FaultCounts) (scope k : ℕ) (misused nillable : Bool) where
  abbrev faulty : KeyRecords
  faulty = record old { faults = faults }

  abbrev found : Option (List Key) → TargetFaults
  found tuple = record { misused = misused; lacking = is_none tuple; nillable = nillable }

  none-there : (a b : Bool) → weight (a && (b && false)) ≡ 0
  none-there false b = refl
  none-there true false = refl
  none-there true true = refl

  plus-none : (m : ℕ) (a b : Bool) → m ≡ m + weight (a && (b && false))
  plus-none m a b = with-zero m m (weight (a && (b && false))) refl (none-there a b)

  pub put-faults : AreMoreFaults old.faults faults scope k (found None) → AreRecords t refs c old → AreRecords t refs (plus c (one_target scope k None misused nillable)) faulty
  put-faults grown r = record {
    own_are = λ n j tuple. r.own_are n j tuple ∙ plus-none (c n j (with_keys tuple)) (nat_eq scope n) (nat_eq k j);
    settled = r.settled;
    matched = r.matched;
    once = r.once;
    bare = r.bare;
    misused_are = λ n j. misused-more old.faults faults scope k (found None) grown n j ∙ ap (λ (a : ℕ). a + has_fault scope k misused n j) (r.misused_are n j);
    lacking_are = λ n j. lacking-more old.faults faults scope k (found None) grown n j ∙ ap (λ (a : ℕ). a + has_fault scope k true n j) (r.lacking_are n j);
    nillable_are = λ n j. nillable-more old.faults faults scope k (found None) grown n j ∙ ap (λ (a : ℕ). a + has_fault scope k nillable n j) (r.nillable_are n j);
  }

  pub take-faults : AreMoreFaults faults old.faults scope k (found None) → AreRecords t refs (plus c (one_target scope k None misused nillable)) old → AreRecords t refs c faulty
  take-faults grown r = record {
    own_are = λ n j tuple. r.own_are n j tuple ∙ sym (plus-none (c n j (with_keys tuple)) (nat_eq scope n) (nat_eq k j));
    settled = r.settled;
    matched = r.matched;
    once = r.once;
    bare = r.bare;
    misused_are = λ n j. less (faults_at faults n j).misused (c n j with_misuse) (has_fault scope k misused n j) (sym (misused-more faults old.faults scope k (found None) grown n j) ∙ r.misused_are n j);
    lacking_are = λ n j. less (faults_at faults n j).lacking (c n j without_keys) (has_fault scope k true n j) (sym (lacking-more faults old.faults scope k (found None) grown n j) ∙ r.lacking_are n j);
    nillable_are = λ n j. less (faults_at faults n j).nillable (c n j with_nillable) (has_fault scope k nillable n j) (sym (nillable-more faults old.faults scope k (found None) grown n j) ∙ r.nillable_are n j);
  }

-- with one
module _ (t : Links) (refs : References) (c : Counted) (old middle new : KeyRecords) (scope k : ℕ) (tuple : List Key) (misused nillable : Bool) (faults_are : new.faults ≡ middle.faults) where
  pub put-target : AreMoreFaults old.faults middle.faults scope k (record { misused = misused; lacking = false; nillable = nillable }) → AreRecords t refs c old → IsOneMoreTarget refs old new scope k tuple
      → AreSettled t new.referred → AreMatched refs new → AreOnce new → AreBare refs new → AreRecords t refs (plus c (one_target scope k (Some tuple) misused nillable)) new
  put-target grown r own settled matched once bare =
      let here = subst (λ (x : FaultCounts). AreMoreFaults old.faults x scope k (record { misused = misused; lacking = false; nillable = nillable })) (sym faults_are) grown in
      let all : TargetFaults = record { misused = misused; lacking = false; nillable = nillable } in
      record {
        own_are = λ n j other. own n j other ∙ ap (λ (a : ℕ). a + weight (is_it scope k tuple n j other)) (r.own_are n j other);
        settled = settled;
        matched = matched;
        once = once;
        bare = bare;
        misused_are = λ n j. misused-more old.faults new.faults scope k all here n j ∙ ap (λ (a : ℕ). a + has_fault scope k misused n j) (r.misused_are n j);
        lacking_are = λ n j. lacking-more old.faults new.faults scope k all here n j ∙ ap (λ (a : ℕ). a + has_fault scope k false n j) (r.lacking_are n j);
        nillable_are = λ n j. nillable-more old.faults new.faults scope k all here n j ∙ ap (λ (a : ℕ). a + has_fault scope k nillable n j) (r.nillable_are n j);
      }

  pub take-target : AreMoreFaults middle.faults old.faults scope k (record { misused = misused; lacking = false; nillable = nillable }) → AreRecords t refs (plus c (one_target scope k (Some tuple) misused nillable)) old
      → IsOneMoreTarget refs new old scope k tuple → AreSettled t new.referred → AreMatched refs new → AreOnce new → AreBare refs new → AreRecords t refs c new
  take-target grown r own settled matched once bare =
      let here = subst (λ (x : FaultCounts). AreMoreFaults x old.faults scope k (record { misused = misused; lacking = false; nillable = nillable })) (sym faults_are) grown in
      let all : TargetFaults = record { misused = misused; lacking = false; nillable = nillable } in
      record {
        own_are = λ n j other. less (own_of refs new n j other) (c n j (with_keys other)) (weight (is_it scope k tuple n j other)) (sym (own n j other) ∙ r.own_are n j other);
        settled = settled;
        matched = matched;
        once = once;
        bare = bare;
        misused_are = λ n j. less (faults_at new.faults n j).misused (c n j with_misuse) (has_fault scope k misused n j) (sym (misused-more new.faults old.faults scope k all here n j) ∙ r.misused_are n j);
        lacking_are = λ n j. less (faults_at new.faults n j).lacking (c n j without_keys) (has_fault scope k false n j) (sym (lacking-more new.faults old.faults scope k all here n j) ∙ r.lacking_are n j);
        nillable_are = λ n j. less (faults_at new.faults n j).nillable (c n j with_nillable) (has_fault scope k nillable n j) (sym (nillable-more new.faults old.faults scope k all here n j) ∙ r.nillable_are n j);
      }

-- what was put in is there
tuple-here : (scope k : ℕ) (tuple : List Key) → weight (is_it scope k tuple scope k tuple) ≡ 1
tuple-here scope k tuple = ap weight (λ i. eq-eqb scope scope refl i && (decides (for_key k tuple) (for_key k tuple)).1 refl i)

pub there : (t : Links) (refs : References) (c : Counted) (r : KeyRecords) (scope k : ℕ) (tuple : List Key) (misused nillable : Bool) → AreRecords t refs (plus c (one_target scope k (Some tuple) misused nillable)) r
    → 1 ≤ own_of refs r scope k tuple
there t refs c r scope k tuple misused nillable records =
    let all = records.own_are scope k tuple in
    let one = tuple-here scope k tuple in
    some (own_of refs r scope k tuple) (c scope k (with_keys tuple)) (weight (is_it scope k tuple scope k tuple)) all one
  where
    some : (a b w : ℕ) → a ≡ b + w → w ≡ 1 → 1 ≤ a
    some a b w e one = omega (arith, e, one)

-- the faults of a target that was put in are among those counted
pub among : (f : Faults) (a b d : ℕ) (misused lacking nillable : Bool) → f.misused ≡ a + weight misused → f.lacking ≡ b + weight lacking → f.nillable ≡ d + weight nillable
    → f ≡ record { misused = a + weight misused; lacking = b + weight lacking; nillable = d + weight nillable }
among f a b d misused lacking nillable one two three = λ i. record { misused = one i; lacking = two i; nillable = three i }

pub faults-among : (t : Links) (refs : References) (c : Counted) (r : KeyRecords) (scope k : ℕ) (tuple : Option (List Key)) (misused nillable : Bool) → AreRecords t refs (plus c (one_target scope k tuple misused nillable)) r
    → faults_at r.faults scope k
    ≡ record { misused = c scope k with_misuse + weight misused; lacking = c scope k without_keys + weight (is_none tuple); nillable = c scope k with_nillable + weight nillable }
faults-among t refs c r scope k tuple misused nillable records =
    among (faults_at r.faults scope k) (c scope k with_misuse) (c scope k without_keys) (c scope k with_nillable) misused (is_none tuple) nillable
    (records.misused_are scope k ∙ ap (λ (w : ℕ). c scope k with_misuse + w) (fault-here scope k misused))
    (records.lacking_are scope k ∙ ap (λ (w : ℕ). c scope k without_keys + w) (fault-here scope k (is_none tuple)))
    (records.nillable_are scope k ∙ ap (λ (w : ℕ). c scope k with_nillable + w) (fault-here scope k nillable))

-- ---- what they say

pub told-by : {P : Type 0} (found : Option Code) (code : Code) → SomeIff found P code → IsTrue (is_some found) ↔ P
told-by None code is = (λ e. absurd (true≢false (sym e)), λ p. absurd (is p))
told-by (Some found) code is = (λ e. is.0, λ p. refl)

pub repeated-by : (t : Links) (refs : References) (c : Counted) (r : KeyRecords) (scope k : ℕ) (b told : Bool) → AreRecords t refs c r → b ≡ is_referred refs k → IsTrue told ↔ ((tuple : List Key) × (2 ≤ own_in b r scope k tuple))
    → IsTrue told ↔ ((tuple : List Key) × (2 ≤ c scope k (with_keys tuple)))
repeated-by t refs c r scope k b told records is iff = (
  λ e. let found = iff.0 e in (found.0, subst (λ (n : ℕ). 2 ≤ n) (same found.0) found.1),
  λ found. iff.1 (found.0, subst (λ (n : ℕ). 2 ≤ n) (sym (same found.0)) found.1),
)
  where
    same : (tuple : List Key) → own_in b r scope k tuple ≡ c scope k (with_keys tuple)
    same tuple = ap (λ (x : Bool). own_in x r scope k tuple) is ∙ records.own_are scope k tuple

-- by one recursion, where own ones are the same
bearing-alike : (f g : ℕ → KeyTuple → ℕ) (y : KeyTuple) → ((n : ℕ) → f n y ≡ g n y) → (below : Numbers) → bearing f y below ≡ bearing g y below
bearing-alike f g y same none = refl
bearing-alike f g y same (node number below next) =
    let own = same number in
    let under = bearing-alike f g y same below in
    let behind = bearing-alike f g y same next in
    λ i. weight (is_seen (own i) (under i)) + behind i

some-referred : (xs : List ℕ) (x : ℕ) → Has x xs → has_any xs ≡ true
some-referred [] x h = absurd h
some-referred (y ∷ ys) x h = refl

module _ (t : Links) (refs : References) (c : Counted) (r : KeyRecords) (scope keyref key : ℕ) (below : Numbers) (sound : AreReferences refs) (records : AreRecords t refs c r) (is : key_of refs keyref ≡ Some key)
    (children : t.children scope ≡ firsts below) (stand : StandFor t below) where
  own-is : (tuple : List Key) (n : ℕ) → own r.referred n (for_key key tuple) ≡ own_tuples c n (for_key key tuple)
  own-is tuple n =
      sym (ap (λ (b : Bool). own_in b r n key tuple) (some-referred (keyrefs_of refs key) keyref (sound.all_there keyref key is))) ∙ records.own_are n key tuple

  shown-is : (tuple : List Key) → is_shown r scope key tuple ≡ is_visible (own_tuples c) (for_key key tuple) scope below
  shown-is tuple =
      seen_is same_key_tuple t (own r.referred) (said r.referred) records.settled (for_key key tuple) scope below children stand
      ∙ (λ i. is_seen (own-is tuple scope i) (bearing-alike (own r.referred) (own_tuples c) (for_key key tuple) (own-is tuple) below i))

  entered-is : (tuple : List Key) → unmatched r scope keyref tuple ≡ weight (nat_lt 0 (c scope keyref (with_keys tuple)) && not (is_visible (own_tuples c) (for_key key tuple) scope below))
  entered-is tuple =
      records.matched scope keyref tuple key is
      ∙ (λ i. weight (nat_lt 0 (records.own_are scope keyref tuple i) && not (shown-is tuple i)))

  from-weight : (n : ℕ) (b : Bool) → 1 ≤ weight (nat_lt 0 n && not b) → (1 ≤ n) × (b ≡ false)
  from-weight n b h = by (nat_lt 0 n) b refl h
    where
      by : (some seen : Bool) → nat_lt 0 n ≡ some → 1 ≤ weight (some && not seen) → (1 ≤ n) × (seen ≡ false)
      by true false e h = (grind (arith, nat_tests), refl)
      by true true e h = absurd (omega (arith, h))
      by false seen e h = absurd (omega (arith, h))

  to-weight : (n : ℕ) (b : Bool) → 1 ≤ n → b ≡ false → 1 ≤ weight (nat_lt 0 n && not b)
  to-weight n b some e =
      let there : nat_lt 0 n ≡ true = grind (arith, nat_tests) in
      subst (λ (w : ℕ). 1 ≤ w) (sym (λ i. weight (there i && not (e i)))) (omega arith)

  pub unmatched-by : (told : Bool) → IsTrue told ↔ ((tuple : List Key) × (1 ≤ unmatched r scope keyref tuple))
      → IsTrue told ↔ ((tuple : List Key) × (1 ≤ c scope keyref (with_keys tuple)) × (is_visible (own_tuples c) (for_key key tuple) scope below ≡ false))
  unmatched-by told iff = (
    λ e.
        let found = iff.0 e in
        let parts = from-weight (c scope keyref (with_keys found.0)) (is_visible (own_tuples c) (for_key key found.0) scope below) (subst (λ (n : ℕ). 1 ≤ n) (entered-is found.0) found.1) in
        (found.0, parts.0, parts.1),
    λ found.
        iff.1 (found.0, subst (λ (n : ℕ). 1 ≤ n) (sym (entered-is found.0)) (to-weight (c scope keyref (with_keys found.0)) (is_visible (own_tuples c) (for_key key found.0) scope below) found.1 found.2)),
  )

-- ---- no targets

none-own : (b : Bool) (r : KeyRecords) (n k : ℕ) (tuple : List Key) → own_count r.referred n (2 * k) tuple ≡ 0 → own_count r.others n (2 * k) tuple ≡ 0 → own_in b r n k tuple ≡ 0
none-own true r n k tuple one two = one
none-own false r n k tuple one two = two

none-bears : (cs : List ℕ) → bearers (λ (m : ℕ). false) cs ≡ 0
none-bears [] = refl
none-bears (c ∷ cs) = let rest = none-bears cs in omega (arith, rest)

pub records-of-none : (t : Links) (refs : References) (r : KeyRecords) → r.referred ≡ [] → r.others ≡ [] → ((n k : ℕ) → faults_at r.faults n k ≡ no_faults) → AreRecords t refs no_targets r
records-of-none t refs r one two none_there = record {
  own_are = λ n k tuple. none-own (is_referred refs k) r n k tuple (empty one n (2 * k) tuple) (empty two n (2 * k) tuple);
  settled = λ m y.
      empty one m (2 * y.key + 1) y.tuple
      ∙ sym (bearers-alike (λ (c : ℕ). false) (seen (own r.referred) (said r.referred) y) (t.children m) (λ c there. (λ i. is_seen (empty one c (2 * y.key) y.tuple i) (empty one c (2 * y.key + 1) y.tuple i)))
      ∙ none-bears (t.children m));
  matched = λ n k tuple key is.
      empty two n (2 * k + 1) tuple ∙ sym (ap (λ (m : ℕ). weight (nat_lt 0 m && not (is_shown r n key tuple))) (none-own (is_referred refs k) r n k tuple (empty one n (2 * k) tuple) (empty two n (2 * k) tuple)));
  once = λ n k tuple. subst (λ (m : ℕ). m ≤ 1) (sym (empty two n (2 * k + 1) tuple)) (omega arith);
  bare = λ n k tuple e. empty one n (2 * k) tuple;
  misused_are = λ n k. ap (λ (f : Faults). f.misused) (none_there n k);
  lacking_are = λ n k. ap (λ (f : Faults). f.lacking) (none_there n k);
  nillable_are = λ n k. ap (λ (f : Faults). f.nillable) (none_there n k);
}
  where
    empty : {tables : Tables} → tables ≡ [] → (n table : ℕ) (tuple : List Key) → own_count tables n table tuple ≡ 0
    empty e n table tuple = ap (λ (x : Tables). own_count x n table tuple) e
