-- One key-sequence of a keyref entered or taken out.
use Rattle.std.proofs.Common.{◌≡◌, ◌⊎◌, ◌+◌, ◌*◌, ◌≤◌, ◌&&◌, ℕ, zero, suc, Bool, true, false, List, None, Some, inl, inr, refl, sym, ap, subst, ◌∙◌, arith}
use Rattle.std.specs.Prelude.{nat_lt, not}
use Rattle.simple_values.specs.declared.key.Key.{Key}
use Rattle.identity_tables.specs.KeyTables.{Tables, own_count, IsOneMoreTuple}
use Rattle.identity_constraints.proofs.Bearers.{spot}
use Rattle.key_records.specs.Tables.{KeyTuple, for_key, same_key_tuple}
use Rattle.key_records.proofs.CarriedEntryLaws.{decides, own_kept, said_more, said_others}
use Rattle.key_records.specs.Faults.{weight}
use Rattle.key_records.specs.References.{key_of, is_referred}
use Rattle.key_records.specs.Records.{own_in, own_of, is_shown, unmatched, IsMatched, AreOnce, IsRematched}
use Rattle.key_records.specs.declared.references.References.{References}
use Rattle.key_records.specs.declared.records.KeyRecords.{KeyRecords}

abbrev Spot : ℕ → KeyTuple → ℕ → KeyTuple → Type 0
Spot n x m y = ((n ≡ m) × (x ≡ y)) ⊎ (n ≡ m → x ≡ y → ⊥)

pub spot-of : (n k : ℕ) (tuple : List Key) (m j : ℕ) (other : List Key) → ((n ≡ m) × (for_key k tuple ≡ for_key j other)) ⊎ (n ≡ m → for_key k tuple ≡ for_key j other → ⊥)
spot-of n k tuple m j other = spot same_key_tuple decides n (for_key k tuple) m (for_key j other)

-- what holds of one spot holds of the same spot
pub at-spot : (P : ℕ → ℕ → List Key → Type 0) (n k : ℕ) (tuple : List Key) (m j : ℕ) (other : List Key) → n ≡ m → for_key k tuple ≡ for_key j other → P n k tuple → P m j other
at-spot P n k tuple m j other e x p = subst (λ (y : KeyTuple). P m y.key y.tuple) x (subst (λ i. P i k tuple) e p)

-- own ones, where both tables have the same
pub own-same : (b : Bool) (old new : KeyRecords) (n k : ℕ) (tuple : List Key) → own_count new.referred n (2 * k) tuple ≡ own_count old.referred n (2 * k) tuple → own_count new.others n (2 * k) tuple ≡ own_count old.others n (2 * k) tuple
    → own_in b new n k tuple ≡ own_in b old n k tuple
own-same true old new n k tuple one two = one
own-same false old new n k tuple one two = two

pub rematched-none : (refs : References) (r : KeyRecords) → AreOnce r → IsRematched refs r r
rematched-none refs r once = record {
  referred_is = refl;
  faults_are = refl;
  own_is = λ n k tuple. refl;
  once = once;
  still = λ n k tuple h. h;
}

pub rematched-both : (refs : References) (old middle new : KeyRecords) → IsRematched refs old middle → IsRematched refs middle new → IsRematched refs old new
rematched-both refs old middle new first second = record {
  referred_is = second.referred_is ∙ first.referred_is;
  faults_are = second.faults_are ∙ first.faults_are;
  own_is = λ n k tuple. second.own_is n k tuple ∙ first.own_is n k tuple;
  once = second.once;
  still = λ n k tuple h. second.still n k tuple (first.still n k tuple h);
}

-- what is entered is right by own ones and tables that are the same
pub matched-alike : (refs : References) (old new : KeyRecords) (n k : ℕ) (tuple : List Key) → unmatched new n k tuple ≡ unmatched old n k tuple → own_of refs new n k tuple ≡ own_of refs old n k tuple
    → ((key : ℕ) → key_of refs k ≡ Some key → is_shown new n key tuple ≡ is_shown old n key tuple) → IsMatched refs old n k tuple → IsMatched refs new n k tuple
matched-alike refs old new n k tuple entered own shown h = λ key is.
    let seen = shown key is in
    entered ∙ h key is ∙ (λ i. weight (nat_lt 0 (sym own i) && not (sym seen i)))

module _ (refs : References) (old : KeyRecords) (others : Tables) where
  abbrev new : KeyRecords
  new = record old { others = others }

  own-kept : (k : ℕ) (tuple : List Key) (m j : ℕ) (other : List Key) → own_count others m (2 * j) other ≡ own_count old.others m (2 * j) other → own_of refs new m j other ≡ own_of refs old m j other
  own-kept k tuple m j other e = own-same (is_referred refs j) old new m j other refl e

  -- one spot has changed, and is right
  module _ (n k : ℕ) (tuple : List Key) (own : (m j : ℕ) (other : List Key) → own_count others m (2 * j) other ≡ own_count old.others m (2 * j) other)
      (rest : (m j : ℕ) (other : List Key) → (n ≡ m → for_key k tuple ≡ for_key j other → ⊥) → unmatched new m j other ≡ unmatched old m j other)
      (few : unmatched new n k tuple ≤ 1) (once : AreOnce old) where
    pub rematched : IsMatched refs new n k tuple → IsRematched refs old new
    rematched right = record {
      referred_is = refl;
      faults_are = refl;
      own_is = own;
      once = λ m j other. elim (spot-of n k tuple m j other) [
        | inl is ↦ at-spot (λ a b (t : List Key). unmatched new a b t ≤ 1) n k tuple m j other is.0 is.1 few
        | inr off ↦ subst (λ (c : ℕ). c ≤ 1) (sym (rest m j other off)) (once m j other)
      ];
      still = λ m j other h. elim (spot-of n k tuple m j other) [
        | inl is ↦ at-spot (λ a b (t : List Key). IsMatched refs new a b t) n k tuple m j other is.0 is.1 right
        | inr off ↦ matched-alike refs old new m j other (rest m j other off) (own-kept k tuple m j other (own m j other)) (λ key is. refl) h
      ];
    }

weight-one : (b : Bool) → b ≡ true → weight b ≡ 1
weight-one b e = ap weight e

weight-none : (b : Bool) → b ≡ false → weight b ≡ 0
weight-none b e = ap weight e

some-key : (a b : ℕ) → Some a ≡ Some b → a ≡ b
some-key a b e = cc

-- it is right where it is as it is wanted
pub right : (refs : References) (r : KeyRecords) (n k : ℕ) (tuple : List Key) (key own : ℕ) (seen wanted : Bool) → key_of refs k ≡ Some key → own ≡ own_of refs r n k tuple → seen ≡ is_shown r n key tuple
    → wanted ≡ (nat_lt 0 own && not seen) → unmatched r n k tuple ≡ weight wanted → IsMatched refs r n k tuple
right refs r n k tuple key own seen wanted is own_is seen_is wanted_is entered = λ other at.
    let same : key ≡ other = some-key key other (sym is ∙ at) in
    let shown : seen ≡ is_shown r n other tuple = subst (λ j. seen ≡ is_shown r n j tuple) same seen_is in
    entered ∙ ap weight wanted_is ∙ (λ i. weight (nat_lt 0 (own_is i) && not (shown i)))

-- no keyref
pub no-keyref : (refs : References) (r : KeyRecords) (n k : ℕ) (tuple : List Key) → key_of refs k ≡ None → IsMatched refs r n k tuple
no-keyref refs r n k tuple e = λ key is. absurd (none-some key (sym e ∙ is))
  where
    none-some : (key : ℕ) → None ≡ Some key → ⊥
    none-some key h = cc

-- it stays
module _ (refs : References) (r : KeyRecords) (n k : ℕ) (tuple : List Key) (key own entered : ℕ) (seen wanted : Bool) (once : AreOnce r)
    (is : key_of refs k ≡ Some key) (own_is : own ≡ own_of refs r n k tuple) (seen_is : seen ≡ is_shown r n key tuple) (wanted_is : wanted ≡ (nat_lt 0 own && not seen)) (entered_is : entered ≡ unmatched r n k tuple) where
  pub stays-entered : wanted ≡ true → (entered ≡ 0 → ⊥) → IsMatched refs r n k tuple
  stays-entered holds some =
      let one : unmatched r n k tuple ≡ 1 = few (unmatched r n k tuple) (once n k tuple) (λ e. some (entered_is ∙ e)) in
      right refs r n k tuple key own seen wanted is own_is seen_is wanted_is (one ∙ sym (weight-one wanted holds))
    where
      few : (c : ℕ) → c ≤ 1 → (c ≡ 0 → ⊥) → c ≡ 1
      few zero h off = absurd (off refl)
      few (suc zero) h off = refl
      few (suc (suc c)) h off = absurd (omega (arith, h))

  pub stays-out : wanted ≡ false → entered ≡ 0 → IsMatched refs r n k tuple
  stays-out fails none = right refs r n k tuple key own seen wanted is own_is seen_is wanted_is (sym entered_is ∙ none ∙ sym (weight-none wanted fails))

  -- it is entered
  module _ (others : Tables) (made : List Key) (cloned : made ≡ tuple) (grown : IsOneMoreTuple r.others others n (2 * k + 1) made) where
    more : IsOneMoreTuple r.others others n (2 * k + 1) tuple
    more = subst (IsOneMoreTuple r.others others n (2 * k + 1)) cloned grown

    own-there : (m j : ℕ) (other : List Key) → own_count others m (2 * j) other ≡ own_count r.others m (2 * j) other
    own-there m j other = own_kept r.others others n k tuple more m (for_key j other)

    pub entered-right : wanted ≡ true → entered ≡ 0 → IsMatched refs (new refs r others) n k tuple
    entered-right holds none =
        let one : unmatched (new refs r others) n k tuple ≡ 1 = said_more r.others others n k tuple more ∙ ap (λ (c : ℕ). c + 1) (sym entered_is ∙ none) in
        right refs (new refs r others) n k tuple key own seen wanted is (own_is ∙ sym (own-kept refs r others k tuple n k tuple (own-there n k tuple))) seen_is wanted_is (one ∙ sym (weight-one wanted holds))

    pub entered-rematched : wanted ≡ true → entered ≡ 0 → IsRematched refs r (new refs r others)
    entered-rematched holds none =
        let one : unmatched (new refs r others) n k tuple ≡ 1 = said_more r.others others n k tuple more ∙ ap (λ (c : ℕ). c + 1) (sym entered_is ∙ none) in
        rematched refs r others n k tuple own-there (λ m j other off. said_others r.others others n k tuple more m (for_key j other) off) (subst (λ (c : ℕ). c ≤ 1) (sym one) (omega arith)) once (entered-right holds none)

  -- it is taken out
  module _ (others : Tables) (grown : IsOneMoreTuple others r.others n (2 * k + 1) tuple) where
    own-left : (m j : ℕ) (other : List Key) → own_count others m (2 * j) other ≡ own_count r.others m (2 * j) other
    own-left m j other = sym (own_kept others r.others n k tuple grown m (for_key j other))

    none-left : unmatched (new refs r others) n k tuple ≡ 0
    none-left = let was = said_more others r.others n k tuple grown in let few = once n k tuple in fewer (unmatched (new refs r others) n k tuple) (unmatched r n k tuple) was few
      where
        fewer : (a b : ℕ) → b ≡ a + 1 → b ≤ 1 → a ≡ 0
        fewer a b e h = omega (arith, e, h)

    pub taken-right : wanted ≡ false → IsMatched refs (new refs r others) n k tuple
    taken-right fails =
        right refs (new refs r others) n k tuple key own seen wanted is (own_is ∙ sym (own-kept refs r others k tuple n k tuple (own-left n k tuple))) seen_is wanted_is (none-left ∙ sym (weight-none wanted fails))

    pub taken-rematched : wanted ≡ false → IsRematched refs r (new refs r others)
    taken-rematched fails =
        rematched refs r others n k tuple own-left (λ m j other off. sym (said_others others r.others n k tuple grown m (for_key j other) off))
        (subst (λ (c : ℕ). c ≤ 1) (sym none-left) (omega arith)) once (taken-right fails)
