-- A table of ids through one change, and what the numbers beside it tell.
use Rattle.std.proofs.Common.{◌≡◌, ℕ, ◌+◌, ◌-◌, ◌<◌, ◌≤◌, Bool, true, false, cond, if◌then◌else◌, ◌&&◌, ◌==◌, nat_eq, nat_lt, List, [], ◌∷◌, length, refl, sym, ◌∙◌, ap, subst, arith, ⊎_elim, Option, Some, None, suc, bytes_eq, string_bytes}
use Rattle.std.specs.Cmp.{nat_eq_equiv}
use Rattle.std.specs.HashMap.{HashMap, get, get_by, PutsEntry, IsUnique, WritesThrough}
use Rattle.std.specs.List.{IsDistinct, slice_get, sum_by}
use Rattle.std.specs.List.Sorted.{IsPermutation}
use Rattle.std.specs.Map.{lookup, values_of, remove_entry}
use Rattle.std.specs.Option.{unwrap_or, option_map}
use Rattle.std.specs.String.{string_eq, string_eq_equiv}
use Rattle.std.specs.declared.string.String.{String}
use Rattle.std.specs.declared.alloc.Global.{Global}
use Rattle.std.proofs.lemmas.List.Elements.{All-nil}
use Rattle.std.proofs.lemmas.List.Sums.{sum_by-cons}
use Rattle.std.proofs.lemmas.Map.Entries.{sum_by_puts_entry, sum_by_values_permutation, sum_by-remove_entry, sum_by-set_value, lookup_from_place}
use Rattle.std.proofs.lemmas.Map.Views.{All-map-remove_entry, All-values-set_value, All-map-IsPermutation, All-values-PutsEntry, IfSome-lookup_from_All}
use Rattle.std.proofs.lemmas.Bool.{cases_Bool, cases_lt, ltb-true, lt-ltb, le-ltb, and_parts, eqb-true, eqb-false, ne_eqb}
use Rattle.std.proofs.lemmas.List.{nil_from_length}
use Rattle.std.specs.Cmp.Lexicographic.{same_text}
use Rattle.identity_tables.specs.Counts.{count_of, AreCounts, IsOneMore}
use Rattle.identity_tables.specs.declared.id_table.Uses.{Uses}
use Rattle.identity_tables.proofs.Tally as tally
use Rattle.identity_tables.specs.IdTable.{uses_of, bearers_of, references_of, IsOneMoreId, IsOneMoreReference, HasSameUses, HasMissingId, HasSharedId}
use Rattle.identity_tables.specs.Uses.{missing_weight, shared_weight, is_unused, IsCensus}

abbrev pub HaveCounts : Uses → Type 0
HaveCounts uses = AreCounts nat_eq uses.bearers

abbrev pub references_weight : Uses → ℕ
references_weight uses = uses.references

-- what one id weighs is at most what all weigh
pub weight-le : (f : Uses → ℕ) (test : String Global → Bool) (es : List (String Global × Uses)) (u : Uses) → lookup test es ≡ Some u → f u ≤ sum_by f (values_of es)
weight-le f test es u found =
    let s = sum_by-remove_entry f test es in
    let o = ap (λ o. unwrap_or (option_map f o) 0) found in
    omega arith

weigh-le : (a b : Bool) (r : ℕ) → (a ≡ true → 1 ≤ r) → (if a && b then 1 else 0) ≤ r
weigh-le true true r some = some refl
weigh-le true false r some = omega arith
weigh-le false b r some = omega arith

-- no more ids are missing than there are references
pub missing-le-references : (us : List Uses) → sum_by missing_weight us ≤ sum_by references_weight us
missing-le-references [] = omega arith
missing-le-references (u ∷ us) =
    let rest = missing-le-references us in
    let first = weigh-le (nat_lt 0 u.references) (length u.bearers == 0) u.references (λ h. ltb-true 0 u.references h) in
    let m = sum_by-cons missing_weight u us in
    let r = sum_by-cons references_weight u us in
    omega arith

module _ {S : Type 0} where
  -- after the uses of an id are written anew
  pub census_written : (m n : HashMap (String Global) Uses S) (test : String Global → Bool) (u w : Uses) (r mi sh r' mi' sh' : ℕ) → get_by test m ≡ Some u → WritesThrough string_eq test m w n → AreCounts nat_eq w.bearers → r' + u.references ≡ r + w.references → mi' + missing_weight u ≡ mi + missing_weight w → sh' + shared_weight u ≡ sh + shared_weight w → IsCensus m.entries r mi sh → IsCensus n.entries r' mi' sh'
  census_written m n test u w r mi sh r' mi' sh' found writes counts er em es t =
      let references = sum_by-set_value references_weight test m.entries u w found in
      let missing = sum_by-set_value missing_weight test m.entries u w found in
      let shared = sum_by-set_value shared_weight test m.entries u w found in
      let r0 = t.references_are in
      let m0 = t.missing_is in
      let s0 = t.shared_is in
      record {
        distinct = writes.4;
        counts_are = rw (writes.0) (All-values-set_value test HaveCounts m.entries w t.counts_are counts);
        references_are = rw (writes.0) (omega arith);
        missing_is = rw (writes.0) (omega arith);
        shared_is = rw (writes.0) (omega arith);
      }

  -- the same, where the bearers change and the references stay
  pub census_bearers : (m n : HashMap (String Global) Uses S) (test : String Global → Bool) (u : Uses) (bearers : List (ℕ × ℕ)) (r mi sh a b c d : ℕ) → get_by test m ≡ Some u → WritesThrough string_eq test m (record { bearers = bearers; references = u.references }) n → AreCounts nat_eq bearers → a ≡ missing_weight u → b ≡ missing_weight (record { bearers = bearers; references = u.references }) → c ≡ shared_weight u → d ≡ shared_weight (record { bearers = bearers; references = u.references }) → IsCensus m.entries r mi sh → IsCensus n.entries r (mi - a + b) (sh - c + d)
  census_bearers m n test u bearers r mi sh a b c d found writes counts ea eb ec ed t =
      let w : Uses = record { bearers = bearers; references = u.references } in
      let m0 = t.missing_is in
      let s0 = t.shared_is in
      let few = weight-le missing_weight test m.entries u found in
      let less = weight-le shared_weight test m.entries u found in
      census_written m n test u w r mi sh r (mi - a + b) (sh - c + d) found writes counts refl (omega arith) (omega arith) t

  -- the same, where the references change and the bearers stay
  pub census_references : (m n : HashMap (String Global) Uses S) (test : String Global → Bool) (u : Uses) (references r mi sh r' a b : ℕ) → get_by test m ≡ Some u → WritesThrough string_eq test m (record { bearers = u.bearers; references = references }) n → r' + u.references ≡ r + references → a ≡ missing_weight u → b ≡ missing_weight (record { bearers = u.bearers; references = references }) → IsCensus m.entries r mi sh → IsCensus n.entries r' (mi - a + b) sh
  census_references m n test u references r mi sh r' a b found writes er ea eb t =
      let w : Uses = record { bearers = u.bearers; references = references } in
      let m0 = t.missing_is in
      let few = weight-le missing_weight test m.entries u found in
      let all = IfSome-lookup_from_All HaveCounts test m.entries t.counts_are in
      let counts : AreCounts nat_eq u.bearers = rw found at all in
      census_written m n test u w r mi sh r' (mi - a + b) sh found writes counts er (omega arith) refl t

  -- after a new id comes in
  pub census_added : (m n : HashMap (String Global) Uses S) (k : String Global) (w : Uses) (r mi sh r' mi' sh' : ℕ) (old : Option Uses) → old ≡ get string_eq m k → old ≡ None → PutsEntry string_eq m n k w old → IsUnique string_eq n → AreCounts nat_eq w.bearers → r' ≡ r + w.references → mi' ≡ mi + missing_weight w → sh' ≡ sh + shared_weight w → IsCensus m.entries r mi sh → IsCensus n.entries r' mi' sh'
  census_added m n k w r mi sh r' mi' sh' old at none puts unique counts er em es t =
      let references = sum_by_puts_entry references_weight string_eq m n k w old at puts in
      let missing = sum_by_puts_entry missing_weight string_eq m n k w old at puts in
      let shared = sum_by_puts_entry shared_weight string_eq m n k w old at puts in
      let no_references = ap (λ o. unwrap_or (option_map references_weight o) 0) none in
      let no_missing = ap (λ o. unwrap_or (option_map missing_weight o) 0) none in
      let no_shared = ap (λ o. unwrap_or (option_map shared_weight o) 0) none in
      let r0 = t.references_are in
      let m0 = t.missing_is in
      let s0 = t.shared_is in
      record {
        distinct = unique;
        counts_are = All-values-PutsEntry string_eq HaveCounts m n k w old puts t.counts_are counts;
        references_are = omega arith;
        missing_is = omega arith;
        shared_is = omega arith;
      }

  -- after an id that weighs nothing is taken out
  pub census_without : (m n : HashMap (String Global) Uses S) (test : String Global → Bool) (u : Uses) (r mi sh : ℕ) → get_by test m ≡ Some u → u.references ≡ 0 → missing_weight u ≡ 0 → shared_weight u ≡ 0 → IsPermutation (remove_entry test m.entries) n.entries → IsUnique string_eq n → IsCensus m.entries r mi sh → IsCensus n.entries r mi sh
  census_without m n test u r mi sh found er em es perm unique t =
      let references = sum_by-remove_entry references_weight test m.entries in
      let missing = sum_by-remove_entry missing_weight test m.entries in
      let shared = sum_by-remove_entry shared_weight test m.entries in
      let u_references = ap (λ o. unwrap_or (option_map references_weight o) 0) found in
      let u_missing = ap (λ o. unwrap_or (option_map missing_weight o) 0) found in
      let u_shared = ap (λ o. unwrap_or (option_map shared_weight o) 0) found in
      let p_references = sum_by_values_permutation references_weight _ _ perm in
      let p_missing = sum_by_values_permutation missing_weight _ _ perm in
      let p_shared = sum_by_values_permutation shared_weight _ _ perm in
      let r0 = t.references_are in
      let m0 = t.missing_is in
      let s0 = t.shared_is in
      record {
        distinct = unique;
        counts_are = All-map-IsPermutation (λ e. e.1) HaveCounts _ _ perm (All-map-remove_entry test (λ e. e.1) HaveCounts m.entries t.counts_are);
        references_are = omega arith;
        missing_is = omega arith;
        shared_is = omega arith;
      }

-- no more ids are missing than there are references
pub missing-le-all : (es : List (String Global × Uses)) (r mi sh : ℕ) → IsCensus es r mi sh → mi ≤ r
missing-le-all es r mi sh t =
    let r0 = t.references_are in
    let m0 = t.missing_is in
    let le = missing-le-references (values_of es) in
    omega arith

-- the uses that are there have sound counts
pub counts_at : (test : String Global → Bool) (es : List (String Global × Uses)) (u : Uses) (r mi sh : ℕ) → lookup test es ≡ Some u → IsCensus es r mi sh → AreCounts nat_eq u.bearers
counts_at test es u r mi sh found t = let all = IfSome-lookup_from_All HaveCounts test es t.counts_are in rw found at all

-- with one bearer less there are no two where there were none
pub shared-le : (fewer more : List (ℕ × ℕ)) (bearer : ℕ) (references : ℕ) → AreCounts nat_eq fewer → IsOneMore nat_eq fewer more bearer → shared_weight (record { bearers = fewer; references = references }) ≤ shared_weight (record { bearers = more; references = references })
shared-le fewer more bearer references counts one_less =
    ⊎_elim
    (λ (two : 1 < length fewer).
    let some = tally.several nat_eq nat_eq_equiv fewer counts two in
    let one = one_less some.0 in
    let other = one_less some.1 in
    let one_some = some.3 in
    let other_some = some.4 in
    let still = tally.two_from_several nat_eq nat_eq_equiv more (some.0, some.1, some.2, omega arith, omega arith) in
    rw (lt-ltb 1 (length fewer) two, lt-ltb 1 (length more) still) (omega arith))
    (λ (few : length fewer ≤ 1). rw (le-ltb 1 (length fewer) few) (omega arith))
    (cases_lt 1 (length fewer))

-- a key is not there where its text is not
pub absent_key : {S : Type 0} (m n : HashMap (String Global) Uses S) (key : String Global) (id : List ℕ) → string_bytes key ≡ id → n ≡ m → None ≡ get_by (λ k. bytes_eq id (string_bytes k)) m → get string_eq n key ≡ None
absent_key m n key id text same none = rw same (subst (λ (t : List ℕ). get_by (λ k. bytes_eq t (string_bytes k)) m ≡ None) (sym text) (sym none))

-- no bearers
pub no_counts : AreCounts nat_eq []
unfolding IsDistinct
no_counts = record { distinct = tt; present = All-nil (λ n. 1 ≤ n) }

-- an id with a reference and no bearer is missing
pub lone_reference : (bearers : List (ℕ × ℕ)) → bearers ≡ [] → (missing_weight (record { bearers = bearers; references = 1 }) ≡ 1) × (shared_weight (record { bearers = bearers; references = 1 }) ≡ 0)
lone_reference bearers none = (rw none refl, rw none refl)

-- an id without references is not missing
pub no_reference : (bearers : List (ℕ × ℕ)) (references : ℕ) → references ≡ 0 → missing_weight (record { bearers = bearers; references = references }) ≡ 0
no_reference bearers references none = rw none refl

one_at : (bearer other : ℕ) → 1 ≤ 0 + (if nat_eq bearer other then 1 else 0) → bearer ≡ other
one_at bearer other some = ⊎_elim (λ yes. eqb-true _ _ yes) (λ no. absurd (let h = rw no at some in omega arith)) (cases_Bool (nat_eq bearer other))

-- an id with one bearer is not shared
pub one_bearer : (bearers : List (ℕ × ℕ)) (bearer references : ℕ) → AreCounts nat_eq bearers → IsOneMore nat_eq [] bearers bearer → shared_weight (record { bearers = bearers; references = references }) ≡ 0
one_bearer bearers bearer references counts more =
    ⊎_elim
    (λ (two : 1 < length bearers).
    let some = tally.several nat_eq nat_eq_equiv bearers counts two in
    let one = one_at bearer some.0 (rw (← more some.0) some.3) in
    let other = one_at bearer some.1 (rw (← more some.1) some.4) in
    absurd (eqb-false some.0 some.1 some.2 (sym one ∙ other)))
    (λ (few : length bearers ≤ 1). rw (le-ltb 1 (length bearers) few) refl)
    (cases_lt 1 (length bearers))

-- what an id without uses weighs
pub unused_parts : (u : Uses) → is_unused u ≡ true → (u.references ≡ 0) × (missing_weight u ≡ 0) × (shared_weight u ≡ 0) × (u.bearers ≡ [])
unused_parts u unused =
    let both = and_parts _ _ unused in
    let references = eqb-true _ _ both.0 in
    let bearers = nil_from_length u.bearers (eqb-true _ _ both.1) in
    (references, rw references refl, rw bearers refl, bearers)

-- the uses of one id are new, and all others as they were
abbrev pub ChangesUses : List (String Global × Uses) → List (String Global × Uses) → List ℕ → Option Uses → Type 0
ChangesUses old new id after = (other : List ℕ) → uses_of new other ≡ cond (bytes_eq id other) after (uses_of old other)

-- an id is this one, whose uses were these and are now those, or another one
abbrev Parted : List (String Global × Uses) → List (String Global × Uses) → List ℕ → Option Uses → Option Uses → Type 1
Parted old new id before after = (P : Bool → Option Uses → Option Uses → Type 0) → P true before after → ((uses : Option Uses) → P false uses uses) → (other : List ℕ) → P (bytes_eq id other) (uses_of old other) (uses_of new other)

parted : (old new : List (String Global × Uses)) (id : List ℕ) (before after : Option Uses) → uses_of old id ≡ before → ChangesUses old new id after → Parted old new id before after
parted old new id before after was changes P here there other =
    let now = changes other in
    ⊎_elim
    (λ (yes : bytes_eq id other ≡ true).
    let same = same_text id other (sym yes) in
    let old_is : uses_of old other ≡ before = subst (λ (o : List ℕ). uses_of old o ≡ before) same was in
    rw (now, old_is, yes) here)
    (λ (no : bytes_eq id other ≡ false). rw (now, no) (there (uses_of old other)))
    (cases_Bool (bytes_eq id other))

one_more_id : (old new : List (String Global × Uses)) (id : List ℕ) (before after : Option Uses) (bearer : ℕ) → Parted old new id before after → IsOneMore nat_eq (bearers_of before) (bearers_of after) bearer → references_of after ≡ references_of before → IsOneMoreId old new id bearer
one_more_id old new id before after bearer split more same = record {
  ids = λ other element. split (λ is was now. count_of nat_eq (bearers_of now) element ≡ count_of nat_eq (bearers_of was) element + (if is && (bearer == element) then 1 else 0)) (more element) (λ uses. omega arith) other;
  references = split (λ is was now. references_of now ≡ references_of was) same (λ uses. refl);
}

one_more_reference : (old new : List (String Global × Uses)) (id : List ℕ) (before after : Option Uses) → Parted old new id before after → bearers_of after ≡ bearers_of before → references_of after ≡ references_of before + 1 → IsOneMoreReference old new id
one_more_reference old new id before after split same more = record {
  ids = λ other element. split (λ is was now. count_of nat_eq (bearers_of now) element ≡ count_of nat_eq (bearers_of was) element) (ap (λ bearers. count_of nat_eq bearers element) same) (λ uses. refl) other;
  references = split (λ is was now. references_of now ≡ references_of was + (if is then 1 else 0)) more (λ uses. omega arith);
}

module _ (old new : List (String Global × Uses)) (id : List ℕ) (before after : Option Uses) (was : uses_of old id ≡ before) (changes : ChangesUses old new id after) where
  forth : Parted old new id before after
  forth = parted old new id before after was changes

  back : Parted new old id after before
  back P = forth (λ is old new. P is new old)

  pub more_id : (bearer : ℕ) → IsOneMore nat_eq (bearers_of before) (bearers_of after) bearer → references_of after ≡ references_of before → IsOneMoreId old new id bearer
  more_id bearer more same = one_more_id old new id before after bearer forth more same

  pub less_id : (bearer : ℕ) → IsOneMore nat_eq (bearers_of after) (bearers_of before) bearer → references_of after ≡ references_of before → IsOneMoreId new old id bearer
  less_id bearer more same = one_more_id new old id after before bearer back more (sym same)

  pub more_reference : bearers_of after ≡ bearers_of before → references_of after ≡ references_of before + 1 → IsOneMoreReference old new id
  more_reference same more = one_more_reference old new id before after forth same more

  pub less_reference : bearers_of after ≡ bearers_of before → references_of before ≡ references_of after + 1 → IsOneMoreReference new old id
  less_reference same more = one_more_reference new old id after before back (sym same) more

  pub same_uses : bearers_of after ≡ bearers_of before → references_of after ≡ references_of before → HasSameUses old new
  same_uses bearers references = record {
    ids = λ other element. forth (λ is was now. count_of nat_eq (bearers_of now) element ≡ count_of nat_eq (bearers_of was) element) (ap (λ bearers. count_of nat_eq bearers element) bearers) (λ uses. refl) other;
    references = forth (λ is was now. references_of now ≡ references_of was) references (λ uses. refl);
  }

-- the uses stay the same after one less
pub less_id_then : (old mid new : List (String Global × Uses)) (id : List ℕ) (bearer : ℕ) → IsOneMoreId mid old id bearer → HasSameUses mid new → IsOneMoreId new old id bearer
less_id_then old mid new id bearer less same = record {
  ids = λ other element. less.ids other element ∙ ap (λ n. n + (if bytes_eq id other && (bearer == element) then 1 else 0)) (sym (same.ids other element));
  references = λ other. less.references other ∙ sym (same.references other);
}

pub less_reference_then : (old mid new : List (String Global × Uses)) (id : List ℕ) → IsOneMoreReference mid old id → HasSameUses mid new → IsOneMoreReference new old id
less_reference_then old mid new id less same = record {
  ids = λ other element. less.ids other element ∙ sym (same.ids other element);
  references = λ other. less.references other ∙ ap (λ n. n + (if bytes_eq id other then 1 else 0)) (sym (same.references other));
}

-- where the weights come to something, one id weighs something
pub weighty_place : (f : Uses → ℕ) (es : List (String Global × Uses)) → 0 < sum_by f (values_of es) → (i : ℕ) × (k : String Global) × (u : Uses) × (slice_get es i ≡ Some (k, u)) × (0 < f u)
weighty_place f [] some = absurd (omega arith)
weighty_place f (e ∷ es) some =
    let all = sum_by-cons f e.1 (values_of es) in
    ⊎_elim
    (λ (one : 0 < f e.1). (0, e.0, e.1, refl, one))
    (λ (none : f e.1 ≤ 0).
    let found = weighty_place f es (omega arith) in
    (suc found.0, found.1, found.2, found.3, found.4))
    (cases_lt 0 (f e.1))

-- counts that are all 0 are of nothing
no_bearers : (bearers : List (ℕ × ℕ)) → AreCounts nat_eq bearers → ((bearer : ℕ) → count_of nat_eq bearers bearer ≡ 0) → bearers ≡ []
no_bearers [] counts none = refl
no_bearers (e ∷ es) counts none = absurd (let some = tally.first_thing nat_eq nat_eq_equiv e es counts in let zero = none e.0 in omega arith)

-- a weight of 1 by two tests
both_weigh : (a b : Bool) → 0 < (if a && b then 1 else 0) → (a ≡ true) × (b ≡ true)
both_weigh true true some = (refl, refl)
both_weigh true false some = absurd (omega arith)
both_weigh false b some = absurd (omega arith)

one_weighs : (a : Bool) → 0 < (if a then 1 else 0) → a ≡ true
one_weighs true some = refl
one_weighs false some = absurd (omega arith)

module _ (es : List (String Global × Uses)) (r mi sh : ℕ) (t : IsCensus es r mi sh) where
  pub has_missing : 0 < mi → HasMissingId es
  has_missing some =
      let m0 = t.missing_is in
      let place = weighty_place missing_weight es (omega arith) in
      let found : uses_of es (string_bytes place.1) ≡ Some place.2 = lookup_from_place string_eq_equiv es place.0 place.1 place.2 t.distinct place.3 in
      let both = both_weigh _ _ place.4 in (
        string_bytes place.1,
        rw found (ltb-true 0 place.2.references both.0),
        λ bearer. rw (found, nil_from_length place.2.bearers (eqb-true _ _ both.1)) refl,
      )

  pub missing_from : HasMissingId es → 0 < mi
  missing_from some =
      let m0 = t.missing_is in
      let at : (o : Option Uses) → uses_of es some.0 ≡ o → 0 < mi =
      λ o. elim o as (λ o. uses_of es some.0 ≡ o → 0 < mi) [
        | None ↦ λ e. absurd (let h = rw e at some.1 in omega arith)
        | Some u ↦ λ e.
            let counts : AreCounts nat_eq u.bearers = let all = IfSome-lookup_from_All HaveCounts (λ key. bytes_eq some.0 (string_bytes key)) es t.counts_are in rw e at all in
            let none = no_bearers u.bearers counts (λ bearer. rw e at (some.2 bearer)) in
            let one : 0 < u.references = rw e at some.1 in
            let weight : missing_weight u ≡ 1 = rw (lt-ltb 0 u.references one, none) refl in
            let le = weight-le missing_weight _ es u e in
            omega arith
      ] in
      at (uses_of es some.0) refl

  pub has_shared : 0 < sh → HasSharedId es
  has_shared some =
      let m0 = t.shared_is in
      let place = weighty_place shared_weight es (omega arith) in
      let found : uses_of es (string_bytes place.1) ≡ Some place.2 = lookup_from_place string_eq_equiv es place.0 place.1 place.2 t.distinct place.3 in
      let two = ltb-true 1 _ (one_weighs _ place.4) in
      let counts : AreCounts nat_eq place.2.bearers = let all = IfSome-lookup_from_All HaveCounts (λ key. bytes_eq (string_bytes place.1) (string_bytes key)) es t.counts_are in rw found at all in
      let both = tally.several nat_eq nat_eq_equiv place.2.bearers counts two in
      (string_bytes place.1, both.0, both.1, eqb-false _ _ both.2, rw found both.3, rw found both.4)

  pub shared_from : HasSharedId es → 0 < sh
  shared_from some =
      let m0 = t.shared_is in
      let at : (o : Option Uses) → uses_of es some.0 ≡ o → 0 < sh =
      λ o. elim o as (λ o. uses_of es some.0 ≡ o → 0 < sh) [
        | None ↦ λ e. absurd (let h = rw e at some.4 in omega arith)
        | Some u ↦ λ e.
            let two = tally.two_from_several nat_eq nat_eq_equiv u.bearers (some.1, some.2, ne_eqb some.1 some.2 some.3, rw e at some.4, rw e at some.5) in
            let weight : shared_weight u ≡ 1 = rw (lt-ltb 1 (length u.bearers) two) refl in
            let le = weight-le shared_weight _ es u e in
            omega arith
      ] in
      at (uses_of es some.0) refl
