-- One own key-sequence more of an element, or one less.
use Rattle.std.proofs.Common.{◌≡◌, ◌⊎◌, ◌+◌, ◌*◌, ◌≤◌, ◌&&◌, ℕ, Bool, true, false, List, Some, inl, inr, nat_eq, refl, sym, ap, subst, ◌∙◌, arith, true≢false}
use Rattle.std.specs.Prelude.{nat_lt, not, [], ◌∷◌}
use Rattle.std.proofs.lemmas.Bool.{and_parts, eqb-true}
use Rattle.simple_values.specs.declared.key.Key.{Key}
use Rattle.identity_tables.specs.KeyTables.{Tables, own_count, IsOneMoreTuple}
use Rattle.identity_constraints.specs.Counting.{Has, Links}
use Rattle.identity_constraints.proofs.Bearers.{same_or_other}
use Rattle.key_records.specs.Tables.{KeyTuple, for_key, same_key_tuple, is_in_table, AreSettled, IsOneMoreOwn}
use Rattle.key_records.proofs.CarriedEntryLaws.{decides, own_more, said_kept}
use Rattle.key_records.specs.Faults.{weight}
use Rattle.key_records.specs.References.{AreReferences, key_of, keyrefs_of, is_referred}
use Rattle.key_records.specs.Records.{own_in, own_of, is_shown, unmatched, IsMatched, AreBare, AreOnce, AreMatched, IsRematched, IsOneMoreTarget, IsChangedAt}
use Rattle.key_records.specs.declared.references.References.{References}
use Rattle.key_records.specs.declared.records.KeyRecords.{KeyRecords}
use Rattle.key_records.proofs.EntryLaws.{spot-of, at-spot, own-same, matched-alike}

is-false : (b : Bool) → (b ≡ true → ⊥) → b ≡ false
is-false true never = absurd (never refl)
is-false false never = refl

-- whether it is this key-sequence of this constraint of this element
abbrev is_it : ℕ → ℕ → List Key → ℕ → ℕ → List Key → Bool
is_it scope k tuple n j other = nat_eq scope n && same_key_tuple (for_key k tuple) (for_key j other)

it-off : (scope k : ℕ) (tuple : List Key) (n j : ℕ) (other : List Key) → (scope ≡ n → for_key k tuple ≡ for_key j other → ⊥) → weight (is_it scope k tuple n j other) ≡ 0
it-off scope k tuple n j other off =
    ap weight (is-false (is_it scope k tuple n j other) (λ e. let both = and_parts (nat_eq scope n) (same_key_tuple (for_key k tuple) (for_key j other)) e in
    off (eqb-true scope n both.0) ((decides (for_key k tuple) (for_key j other)).0 both.1)))

-- of another constraint, by a test that tells the two apart
it-apart : (f : ℕ → Bool) (scope k : ℕ) (tuple : List Key) (n j : ℕ) (other : List Key) (b : Bool) → f k ≡ b → (f j ≡ b → ⊥) → weight (is_it scope k tuple n j other) ≡ 0
it-apart f scope k tuple n j other b here off =
    it-off scope k tuple n j other (λ e x. off (subst (λ (y : KeyTuple). f y.key ≡ b) x here))

same-with : (a b w : ℕ) → a ≡ b → w ≡ 0 → a ≡ b + w
same-with a b w e none = omega (arith, e, none)

with-none : (a b w : ℕ) → a ≡ b + w → w ≡ 0 → a ≡ b
with-none a b w e none = omega (arith, e, none)

not-both : (b : Bool) → b ≡ true → b ≡ false → ⊥
not-both b holds fails = true≢false (sym holds ∙ fails)

-- the own ones of one kind of constraints, where the constraint is of that kind
module _ (refs : References) (old new : KeyRecords) (scope k : ℕ) (tuple : List Key) where
  pub referred-more : is_referred refs k ≡ true → IsOneMoreOwn old.referred new.referred scope k tuple → ((n j : ℕ) (other : List Key) → own_count new.others n (2 * j) other ≡ own_count old.others n (2 * j) other)
      → IsOneMoreTarget refs old new scope k tuple
  referred-more here grown same n j other = by (is_referred refs j) refl
    where
      by : (b : Bool) → is_referred refs j ≡ b → own_in b new n j other ≡ own_in b old n j other + weight (is_it scope k tuple n j other)
      by true e = grown n (for_key j other)
      by false e = same-with (own_count new.others n (2 * j) other) (own_count old.others n (2 * j) other) (weight (is_it scope k tuple n j other)) (same n j other)
          (it-apart (is_referred refs) scope k tuple n j other true here (λ holds. not-both (is_referred refs j) holds e))

  pub other-more : is_referred refs k ≡ false → IsOneMoreTuple old.others new.others scope (2 * k) tuple → ((n j : ℕ) (other : List Key) → own_count new.referred n (2 * j) other ≡ own_count old.referred n (2 * j) other)
      → IsOneMoreTarget refs old new scope k tuple
  other-more here grown same n j other = by (is_referred refs j) refl
    where
      by : (b : Bool) → is_referred refs j ≡ b → own_in b new n j other ≡ own_in b old n j other + weight (is_it scope k tuple n j other)
      by true e = same-with (own_count new.referred n (2 * j) other) (own_count old.referred n (2 * j) other) (weight (is_it scope k tuple n j other)) (same n j other)
          (it-apart (is_referred refs) scope k tuple n j other false here (λ fails. not-both (is_referred refs j) e fails))
      by false e = own_more old.others new.others scope k tuple grown n (for_key j other)

-- and what no keyref refers to still has none among these
module _ (refs : References) (old new : KeyRecords) (scope k : ℕ) (tuple : List Key) (here : is_referred refs k ≡ true) where
  not-it : (n j : ℕ) (other : List Key) → is_referred refs j ≡ false → weight (is_it scope k tuple n j other) ≡ 0
  not-it n j other e = it-apart (is_referred refs) scope k tuple n j other true here (λ holds. not-both (is_referred refs j) holds e)

  bare-more : IsOneMoreOwn old.referred new.referred scope k tuple → AreBare refs old → AreBare refs new
  bare-more grown bare n j other e =
      with-none (own_count new.referred n (2 * j) other) (own_count old.referred n (2 * j) other) (weight (is_it scope k tuple n j other)) (grown n (for_key j other)) (not-it n j other e) ∙ bare n j other e

  bare-less : IsOneMoreOwn new.referred old.referred scope k tuple → AreBare refs old → AreBare refs new
  bare-less grown bare n j other e =
      sym (with-none (own_count old.referred n (2 * j) other) (own_count new.referred n (2 * j) other) (weight (is_it scope k tuple n j other)) (grown n (for_key j other)) (not-it n j other e)) ∙ bare n j other e

-- elsewhere the own ones are as they were
pub own-elsewhere : (refs : References) (fewer more : KeyRecords) (scope k : ℕ) (tuple : List Key) → IsOneMoreTarget refs fewer more scope k tuple
    → (n j : ℕ) (other : List Key) → (scope ≡ n → for_key k tuple ≡ for_key j other → ⊥) → own_of refs more n j other ≡ own_of refs fewer n j other
own-elsewhere refs fewer more scope k tuple grown n j other off =
    with-none (own_of refs more n j other) (own_of refs fewer n j other) (weight (is_it scope k tuple n j other)) (grown n j other) (it-off scope k tuple n j other off)

-- ---- of a constraint that no keyref refers to

module _ (refs : References) (old : KeyRecords) (others : Tables) (scope k : ℕ) (tuple : List Key) where
  abbrev other_new : KeyRecords
  other_new = record old { others = others }

  other-changed : ((n j : ℕ) (other : List Key) → own_count others n (2 * j + 1) other ≡ own_count old.others n (2 * j + 1) other)
      → ((n j : ℕ) (other : List Key) → (scope ≡ n → for_key k tuple ≡ for_key j other → ⊥) → own_of refs other_new n j other ≡ own_of refs old n j other) → AreOnce old → IsChangedAt refs old other_new scope k tuple
  other-changed entered own once = record {
    faults_are = refl;
    once = λ n j other. subst (λ (c : ℕ). c ≤ 1) (sym (entered n j other)) (once n j other);
    still = λ n j other off h. matched-alike refs old other_new n j other (entered n j other) (own n j other off) (λ key is. refl) h;
    bare = λ h. h;
  }

  pub other-added : (made : List Key) → made ≡ tuple → is_referred refs k ≡ false → IsOneMoreTuple old.others others scope (2 * k) made → IsOneMoreTarget refs old other_new scope k tuple
  other-added made cloned here grown = other-more refs old other_new scope k tuple here (subst (IsOneMoreTuple old.others others scope (2 * k)) cloned grown) (λ n j other. refl)

  pub other-added-changed : (made : List Key) → made ≡ tuple → is_referred refs k ≡ false → AreOnce old → IsOneMoreTuple old.others others scope (2 * k) made → IsChangedAt refs old other_new scope k tuple
  other-added-changed made cloned here once grown =
      let more = subst (IsOneMoreTuple old.others others scope (2 * k)) cloned grown in
      other-changed (λ n j other. said_kept old.others others scope k tuple more n (for_key j other)) (own-elsewhere refs old other_new scope k tuple (other-added made cloned here grown)) once

  pub other-dropped : is_referred refs k ≡ false → IsOneMoreTuple others old.others scope (2 * k) tuple → IsOneMoreTarget refs other_new old scope k tuple
  other-dropped here grown = other-more refs other_new old scope k tuple here grown (λ n j other. refl)

  pub other-dropped-changed : is_referred refs k ≡ false → AreOnce old → IsOneMoreTuple others old.others scope (2 * k) tuple → IsChangedAt refs old other_new scope k tuple
  other-dropped-changed here once grown =
      other-changed (λ n j other. sym (said_kept others old.others scope k tuple grown n (for_key j other)))
      (λ n j other off. sym (own-elsewhere refs other_new old scope k tuple (other-dropped here grown) n j other off)) once

-- ---- of one that keyrefs refer to

some-key : (a b : ℕ) → Some a ≡ Some b → a ≡ b
some-key a b e = cc

has-or-lacks : (m : ℕ) (xs : List ℕ) → Has m xs ⊎ (Has m xs → ⊥)
has-or-lacks m [] = inr (λ h. h)
has-or-lacks m (x ∷ xs) =
    elim (same_or_other x m) [
      | inl e ↦ inl (inl e)
      | inr off ↦ elim (has-or-lacks m xs) [ inl later ↦ inl (inr later) | inr never ↦ inr (λ h. elim h [ inl e ↦ off e | inr later ↦ never later ]) ]
    ]

same-or-not : (x y : KeyTuple) (b : Bool) → same_key_tuple x y ≡ b → (x ≡ y) ⊎ (x ≡ y → ⊥)
same-or-not x y true e = inl ((decides x y).0 e)
same-or-not x y false e = inr (λ same. true≢false (sym ((decides x y).1 same) ∙ e))

module _ (refs : References) (sound : AreReferences refs) (old middle new : KeyRecords) (scope k : ℕ) (tuple : List Key) (told : List ℕ)
    (others_are : middle.others ≡ old.others) (faults_are : middle.faults ≡ old.faults)
    (alike : (m : ℕ) (y : KeyTuple) → (Has m told → for_key k tuple ≡ y → ⊥) → is_in_table middle.referred m y ≡ is_in_table old.referred m y)
    (again : IsRematched refs middle new) (right : (n keyref : ℕ) → Has n told → Has keyref (keyrefs_of refs k) → IsMatched refs new n keyref tuple) where
  -- by the own ones elsewhere
  pub referred-changed : ((n j : ℕ) (other : List Key) → (scope ≡ n → for_key k tuple ≡ for_key j other → ⊥) → own_of refs middle n j other ≡ own_of refs old n j other) → (AreBare refs old → AreBare refs middle)
      → IsChangedAt refs old new scope k tuple
  referred-changed own bare = record {
    faults_are = again.faults_are ∙ faults_are;
    once = again.once;
    still = λ n j other off h key is.
        elim (same-or-not (for_key k tuple) (for_key key other) (same_key_tuple (for_key k tuple) (for_key key other)) refl) [
          | inl same ↦ elim (has-or-lacks n told) [
            | inl there ↦ same-tuple n j other key is same there key is
            | inr never ↦ elsewhere n j other off h key is (λ t x. never t)
          ]
          | inr differ ↦ elsewhere n j other off h key is (λ t x. differ x)
        ];
    bare = λ h n j other e. ap (λ (t : Tables). own_count t n (2 * j) other) again.referred_is ∙ bare h n j other e;
  }
    where
      same-tuple : (n j : ℕ) (other : List Key) (key : ℕ) → key_of refs j ≡ Some key → for_key k tuple ≡ for_key key other → Has n told → IsMatched refs new n j other
      same-tuple n j other key is same there =
          subst (λ (y : KeyTuple). IsMatched refs new n j y.tuple) same (right n j there (subst (λ (i : ℕ). Has j (keyrefs_of refs i)) (sym (ap (λ (y : KeyTuple). y.key) same)) (sound.all_there j key is)))

      elsewhere : (n j : ℕ) (other : List Key) → (scope ≡ n → for_key k tuple ≡ for_key j other → ⊥) → IsMatched refs old n j other → (key : ℕ) → key_of refs j ≡ Some key → (Has n told → for_key k tuple ≡ for_key key other → ⊥)
          → unmatched new n j other ≡ weight (nat_lt 0 (own_of refs new n j other) && not (is_shown new n key other))
      elsewhere n j other off h key is apart =
          again.still n j other
          (matched-alike refs old middle n j other (ap (λ (t : Tables). own_count t n (2 * j + 1) other) others_are) (own n j other off)
          (λ other_key at. subst (λ (i : ℕ). is_shown middle n i other ≡ is_shown old n i other) (some-key key other_key (sym is ∙ at)) (alike n (for_key key other) apart)) h)
          key is

  same-others : (n j : ℕ) (other : List Key) → own_count middle.others n (2 * j) other ≡ own_count old.others n (2 * j) other
  same-others n j other = ap (λ (t : Tables). own_count t n (2 * j) other) others_are

  module _ (here : is_referred refs k ≡ true) where
    pub referred-added : IsOneMoreOwn old.referred middle.referred scope k tuple → IsOneMoreTarget refs old new scope k tuple
    referred-added grown =
        referred-more refs old new scope k tuple here (subst (λ (t : Tables). IsOneMoreOwn old.referred t scope k tuple) (sym again.referred_is) grown)
        (λ n j other. again.own_is n j other ∙ same-others n j other)

    pub referred-added-changed : IsOneMoreOwn old.referred middle.referred scope k tuple → IsChangedAt refs old new scope k tuple
    referred-added-changed grown = referred-changed (own-elsewhere refs old middle scope k tuple (referred-more refs old middle scope k tuple here grown same-others))
        (bare-more refs old middle scope k tuple here grown)

    pub referred-dropped : IsOneMoreOwn middle.referred old.referred scope k tuple → IsOneMoreTarget refs new old scope k tuple
    referred-dropped grown =
        referred-more refs new old scope k tuple here (subst (λ (t : Tables). IsOneMoreOwn t old.referred scope k tuple) (sym again.referred_is) grown)
        (λ n j other. sym (again.own_is n j other ∙ same-others n j other))

    pub referred-dropped-changed : IsOneMoreOwn middle.referred old.referred scope k tuple → IsChangedAt refs old new scope k tuple
    referred-dropped-changed grown =
        referred-changed (λ n j other off. sym (own-elsewhere refs middle old scope k tuple (referred-more refs middle old scope k tuple here grown (λ m i o. sym (same-others m i o))) n j other off))
        (bare-less refs old middle scope k tuple here grown)

  pub referred-settled : (t : Links) → AreSettled t middle.referred → AreSettled t new.referred
  referred-settled t s = subst (AreSettled t) (sym again.referred_is) s

-- ---- and then the entry of the constraint itself

module _ (refs : References) (old middle new : KeyRecords) (scope k : ℕ) (tuple : List Key) (first : IsChangedAt refs old middle scope k tuple) (again : IsRematched refs middle new) where
  pub all-matched : IsMatched refs new scope k tuple → AreMatched refs old → AreMatched refs new
  all-matched right all n j other =
      elim (spot-of scope k tuple n j other) [
        | inl is ↦ at-spot (λ a b (t : List Key). IsMatched refs new a b t) scope k tuple n j other is.0 is.1 right
        | inr off ↦ again.still n j other (first.still n j other off (all n j other))
      ]

  own-again : (b : Bool) (n j : ℕ) (other : List Key) → own_in b new n j other ≡ own_in b middle n j other
  own-again b n j other = own-same b middle new n j other (ap (λ (t : Tables). own_count t n (2 * j) other) again.referred_is) (again.own_is n j other)

  pub put-own : IsOneMoreTarget refs old middle scope k tuple → IsOneMoreTarget refs old new scope k tuple
  put-own grown n j other = own-again (is_referred refs j) n j other ∙ grown n j other

  pub taken-own : IsOneMoreTarget refs middle old scope k tuple → IsOneMoreTarget refs new old scope k tuple
  taken-own grown n j other = grown n j other ∙ ap (λ (c : ℕ). c + weight (is_it scope k tuple n j other)) (sym (own-again (is_referred refs j) n j other))

  pub rest-is : AreOnce new × (new.faults ≡ old.faults)
  rest-is = (again.once, again.faults_are ∙ first.faults_are)

  pub bare-again : AreBare refs old → AreBare refs new
  bare-again h n j other e = ap (λ (t : Tables). own_count t n (2 * j) other) again.referred_is ∙ first.bare h n j other e

  pub settled-again : (t : Links) → AreSettled t middle.referred → AreSettled t new.referred
  settled-again t s = subst (AreSettled t) (sym again.referred_is) s

-- ---- what is there

pub there-referred : (b : Bool) (r : KeyRecords) (n k : ℕ) (tuple : List Key) → b ≡ true → 1 ≤ own_in b r n k tuple → 1 ≤ own_count r.referred n (2 * k) tuple
there-referred b r n k tuple e h = subst (λ (x : Bool). 1 ≤ own_in x r n k tuple) e h

pub there-other : (b : Bool) (r : KeyRecords) (n k : ℕ) (tuple : List Key) → b ≡ false → 1 ≤ own_in b r n k tuple → 1 ≤ own_count r.others n (2 * k) tuple
there-other b r n k tuple e h = subst (λ (x : Bool). 1 ≤ own_in x r n k tuple) e h

-- what was made right of a list is right of the list that it is
pub through : (refs : References) (r : KeyRecords) (tuple : List Key) (told slice keyrefs all : List ℕ) → slice ≡ told → keyrefs ≡ all
    → ((n keyref : ℕ) → Has n slice → Has keyref keyrefs → IsMatched refs r n keyref tuple) → (n keyref : ℕ) → Has n told → Has keyref all → IsMatched refs r n keyref tuple
through refs r tuple told slice keyrefs all a b right n keyref h k = right n keyref (subst (Has n) (sym a) h) (subst (Has keyref) (sym b) k)
