-- Counts that are kept with their sum, through one change, and what the sum and the length tell of them.
use Rattle.std.proofs.Common.{◌≡◌, ℕ, ◌+◌, ◌-◌, ◌<◌, ◌≤◌, Bool, true, false, List, [], ◌∷◌, length, refl, sym, ◌∙◌, ap, arith, ⊎_elim, Option, Some, suc}
use Rattle.std.specs.Cmp.{IsEquivalence}
use Rattle.std.specs.HashMap.{HashMap, get, get_by, PutsEntry, IsUnique, WritesThrough}
use Rattle.std.specs.List.{All, slice_get, sum}
use Rattle.std.specs.List.Sorted.{IsPermutation}
use Rattle.std.specs.Map.{lookup, keys_of, values_of, remove_entry}
use Rattle.std.specs.Option.{unwrap_or}
use Rattle.std.proofs.lemmas.List.{nil_from_length}
use Rattle.std.proofs.lemmas.List.Elements.{All-head, All-tail}
use Rattle.std.proofs.lemmas.List.Sums.{sum_by-cons}
use Rattle.std.proofs.lemmas.Map.Keys.{IsDistinct-head}
use Rattle.std.proofs.lemmas.Map.Entries.{sum_by_puts_entry, sum_by_values_permutation, sum_by-remove_entry, sum_by-set_value, lookup_from_place, lookup_head, lookup_tail}
use Rattle.std.proofs.lemmas.Map.Views.{All-map-remove_entry, All-values-set_value, All-map-IsPermutation, All-values-PutsEntry}
use Rattle.std.proofs.lemmas.Iterator.Adapters.{option_map_id}
use Rattle.std.proofs.lemmas.Bool.{cases_lt, cases_Bool, true≢false}
use Rattle.identity_tables.specs.Counts.{count_of, AreCounts, IsTallied, HasRepeated, HasSeveral}

abbrev IsPresent : ℕ → Type 0
IsPresent n = 1 ≤ n

module _ {K S : Type 0} (eq : K → K → Bool) where
  -- after an `insert` of one more
  pub tallied_more : (m n : HashMap K ℕ S) (k : K) (total before : ℕ) (old : Option ℕ) → old ≡ get eq m k → before ≡ unwrap_or old 0 → PutsEntry eq m n k (before + 1) old → IsUnique eq n → IsTallied eq m.entries total → IsTallied eq n.entries (total + 1)
  tallied_more m n k total before old found count puts unique t =
      let s = sum_by_puts_entry (λ (x : ℕ). x) eq m n k (before + 1) old found puts in
      let o = ap (λ o. unwrap_or o 0) (option_map_id old) in
      let e = t.total_is in
      record {
        counts_are = record {
          distinct = unique;
          present = All-values-PutsEntry eq IsPresent m n k (before + 1) old puts t.counts_are.present (omega arith);
        };
        total_is = omega arith;
      }

  -- after a `remove` of the last
  pub tallied_without : (m n : HashMap K ℕ S) (test : K → Bool) (total : ℕ) → unwrap_or (get_by test m) 0 ≡ 1 → IsPermutation (remove_entry test m.entries) n.entries → IsUnique eq n → IsTallied eq m.entries total → IsTallied eq n.entries (total - 1)
  tallied_without m n test total last perm unique t =
      let s = sum_by-remove_entry (λ (x : ℕ). x) test m.entries in
      let p = sum_by_values_permutation (λ (x : ℕ). x) (remove_entry test m.entries) n.entries perm in
      let o = ap (λ o. unwrap_or o 0) (option_map_id (get_by test m)) in
      let e = t.total_is in
      record {
        counts_are = record {
          distinct = unique;
          present = All-map-IsPermutation (λ e. e.1) IsPresent _ _ perm (All-map-remove_entry test (λ e. e.1) IsPresent m.entries t.counts_are.present);
        };
        total_is = omega arith;
      }

  -- after a value is written that is one less
  pub tallied_less : (m n : HashMap K ℕ S) (test : K → Bool) (total before : ℕ) → get_by test m ≡ Some before → 2 ≤ before → WritesThrough eq test m (before - 1) n → IsTallied eq m.entries total → IsTallied eq n.entries (total - 1)
  tallied_less m n test total before found more writes t =
      let s = sum_by-set_value (λ (x : ℕ). x) test m.entries before (before - 1) found in
      let p = ap (λ es. sum (values_of es)) writes.0 in
      let e = t.total_is in
      record {
        counts_are = record {
          distinct = writes.4;
          present = rw (writes.0) (All-values-set_value test IsPresent m.entries (before - 1) t.counts_are.present (omega arith));
        };
        total_is = omega arith;
      }

module _ {K : Type 0} where
  -- there are no more things than their counts together
  pub length-le-sum : (es : List (K × ℕ)) → All IsPresent (values_of es) → length es ≤ sum (values_of es)
  length-le-sum [] present = omega arith
  length-le-sum (e ∷ es) present =
      let all = sum_by-cons (λ (x : ℕ). x) e.1 (values_of es) in
      let rest = length-le-sum es (All-tail IsPresent e.1 (values_of es) present) in
      let first = All-head IsPresent e.1 (values_of es) present in
      omega arith

  -- one thing's count leaves at least one to each other thing
  pub count-le : (test : K → Bool) (es : List (K × ℕ)) → All IsPresent (values_of es) → length es + unwrap_or (lookup test es) 0 ≤ sum (values_of es) + 1
  count-le test [] present = omega arith
  count-le test (e ∷ es) present =
      let all = sum_by-cons (λ (x : ℕ). x) e.1 (values_of es) in
      let rest = count-le test es (All-tail IsPresent e.1 (values_of es) present) in
      let few = length-le-sum es (All-tail IsPresent e.1 (values_of es) present) in
      let first = All-head IsPresent e.1 (values_of es) present in
      let at : (b : Bool) → test e.0 ≡ b → length (e ∷ es) + unwrap_or (lookup test (e ∷ es)) 0 ≤ sum (values_of (e ∷ es)) + 1 =
      λ b. elim b as (λ b. test e.0 ≡ b → length (e ∷ es) + unwrap_or (lookup test (e ∷ es)) 0 ≤ sum (values_of (e ∷ es)) + 1) [
        | true ↦ λ h. rw (lookup_head test e es h) (omega arith)
        | false ↦ λ h. rw (lookup_tail test e es h) (omega arith)
      ] in
      at (test e.0) refl

  -- where the counts together are more than the things, one of them is more than 1
  pub repeated_place : (es : List (K × ℕ)) → All IsPresent (values_of es) → length es < sum (values_of es) → (i : ℕ) × (k : K) × (n : ℕ) × (slice_get es i ≡ Some (k, n)) × (2 ≤ n)
  repeated_place [] present more = absurd (omega arith)
  repeated_place (e ∷ es) present more =
      let all = sum_by-cons (λ (x : ℕ). x) e.1 (values_of es) in
      let first = All-head IsPresent e.1 (values_of es) present in
      ⊎_elim
      (λ (one : e.1 < 2).
      let found = repeated_place es (All-tail IsPresent e.1 (values_of es) present) (omega arith) in
      (suc found.0, found.1, found.2, found.3, found.4))
      (λ (two : 2 ≤ e.1). (0, e.0, e.1, refl, two))
      (cases_lt e.1 2)

  module _ (eq : K → K → Bool) (laws : IsEquivalence eq) where
    pub has_repeated : (es : List (K × ℕ)) (total : ℕ) → IsTallied eq es total → length es < total → HasRepeated eq es
    has_repeated es total t more =
        let e = t.total_is in
        let place = repeated_place es t.counts_are.present (omega arith) in
        let found = lookup_from_place laws es place.0 place.1 place.2 t.counts_are.distinct place.3 in
        (place.1, rw found place.4)

    pub more_from_repeated : (es : List (K × ℕ)) (total : ℕ) → IsTallied eq es total → HasRepeated eq es → length es < total
    more_from_repeated es total t some =
        let e = t.total_is in
        let bound = count-le (eq some.0) es t.counts_are.present in
        let two = some.1 in
        omega arith

    pub nothing : (es : List (K × ℕ)) (total : ℕ) → IsTallied eq es total → total ≡ 0 → es ≡ []
    nothing es total t none =
        let e = t.total_is in
        let few = length-le-sum es t.counts_are.present in
        nil_from_length es (omega arith)

    -- some thing has a count, where there is any
    pub first_thing : (e : K × ℕ) (es : List (K × ℕ)) → AreCounts eq (e ∷ es) → 1 ≤ count_of eq (e ∷ es) e.0
    first_thing e es t = rw (lookup_head (eq e.0) e es (laws.refl e.0)) (All-head IsPresent e.1 (values_of es) t.present)

    pub something : (es : List (K × ℕ)) (total : ℕ) → IsTallied eq es total → 1 ≤ total → (key : K) × (1 ≤ count_of eq es key)
    something [] total t some = absurd (let e = t.total_is in omega arith)
    something (e ∷ es) total t some = (e.0, first_thing e es t.counts_are)

    pub several : (es : List (K × ℕ)) → AreCounts eq es → 1 < length es → HasSeveral eq es
    several [] t two = absurd (omega arith)
    several (e ∷ []) t two = absurd (omega arith)
    several (e ∷ f ∷ es) t two =
        let rest = All-tail IsPresent e.1 (f.1 ∷ values_of es) t.present in
        let found = lookup_from_place laws (e ∷ f ∷ es) 1 f.0 f.1 t.distinct refl in (
          e.0,
          f.0,
          (IsDistinct-head eq e.0 (f.0 ∷ keys_of es) t.distinct).0,
          rw (lookup_head (eq e.0) e (f ∷ es) (laws.refl e.0)) (All-head IsPresent e.1 (f.1 ∷ values_of es) t.present),
          rw found (All-head IsPresent f.1 (values_of es) rest),
        )

    -- a thing with a count is the one thing that is there
    pub only : (e : K × ℕ) (key : K) → 1 ≤ count_of eq (e ∷ []) key → eq key e.0 ≡ true
    only e key some = ⊎_elim (λ h. h) (λ h. absurd (let none = rw (lookup_tail (eq key) e [] h) at some in omega arith)) (cases_Bool (eq key e.0))

    pub two_from_several : (es : List (K × ℕ)) → HasSeveral eq es → 1 < length es
    two_from_several [] some = absurd (let one = some.3 in omega arith)
    two_from_several (e ∷ []) some =
        let one = only e some.0 some.3 in
        let other = only e some.1 some.4 in
        let same = laws.congr some.0 e.0 some.1 one ∙ laws.symm e.0 some.1 ∙ other in
        absurd (true≢false (sym same ∙ some.2))
    two_from_several (e ∷ f ∷ es) some = omega arith
