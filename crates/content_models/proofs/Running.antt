-- The states after letters.
use Rattle.std.proofs.Common.{◌≡◌, ◌≢◌, ℕ, zero, suc, ◌^◌, ◌<◌, ◌≤◌, ◌==◌, ◌⊎◌, Bool, true, false, List, [], ◌∷◌, ◌++◌, length, refl, sym, ap, subst, ◌∙◌, inl, inr, arith, append_assoc, append-nil}
use Rattle.std.specs.Prelude.{nat_lt, bit_or}
use Rattle.std.specs.List.{All}
use Rattle.std.specs.Int.{bit_at}
use Rattle.std.proofs.Common.{eqb-true, eq-eqb}
use Rattle.std.proofs.lemmas.Bool.{cases_eq, false≢true}
use Rattle.std.proofs.lemmas.Bool.Decides.{nat_tests}
use Rattle.std.proofs.lemmas.Nat.Bits.{bit_at_or, bit_at-zero, bit_at-lt, bit_at-pow_same, bit_at-pow_other}
use Rattle.std.proofs.lemmas.List.Elements.{All-nil, All-cons, All-head, All-tail, All-append}
use Rattle.content_models.specs.States.{is_new, next_of, run}
use Rattle.content_models.specs.declared.member.AllMember.{AllMember}
use Rattle.content_models.specs.declared.state.AllState.{AllState}
use Rattle.content_models.proofs.Lettering.{count_in, in_same, in_other, in_append, IsGood}

all_front : (P : ℕ → Type 0) (xs ys : List ℕ) → All P (xs ++ ys) → All P xs
all_front P [] ys h = All-nil P
all_front P (x ∷ xs) ys h = All-cons P x xs (All-head P x (xs ++ ys) h) (all_front P xs ys (All-tail P x (xs ++ ys) h))

all_last : (P : ℕ → Type 0) (xs : List ℕ) (y : ℕ) → All P (xs ++ y ∷ []) → P y
all_last P [] y h = All-head P y [] h
all_last P (x ∷ xs) y h = all_last P xs y (All-tail P x (xs ++ y ∷ []) h)

pub in_one : (j l : ℕ) → l ≡ j → count_in j (l ∷ []) ≡ 1
in_one j l e = in_same j l [] e

pub in_none : (j l : ℕ) → l ≢ j → count_in j (l ∷ []) ≡ 0
in_none j l d = in_other j l [] d

lt_true : (a b : ℕ) → a < b → nat_lt a b ≡ true
lt_true a b l = grind (arith, nat_tests)

module _ (members : List AllMember) (few : length members ≤ 64) where
  -- the state stands for these letters
  pub record Stands (before : List ℕ) (s : AllState) : Type 0 where
    pub alive : s.dead ≡ false → IsGood members before
    pub gone : IsGood members before → s.dead ≡ false
    pub bits : s.dead ≡ false → (j : ℕ) → j < length members → bit_at s.seen j ≡ count_in j before

  good_front : (before : List ℕ) (l : ℕ) → IsGood members (before ++ l ∷ []) → IsGood members before
  good_front before l g = (
    all_front (λ k. k < length members) before (l ∷ []) g.0,
    λ j b. (let a = in_append j before (l ∷ []) in let c = g.1 j b in omega arith),
  )

  good_last : (before : List ℕ) (l : ℕ) → IsGood members (before ++ l ∷ []) → (l < length members) × (count_in l before ≡ 0)
  good_last before l g =
      let b = all_last (λ k. k < length members) before l g.0 in
      (b, (let a = in_append l before (l ∷ []) in let o = in_one l l refl in let c = g.1 l b in omega arith))

  -- a letter that is new
  fresh : (before : List ℕ) (s : AllState) (l : ℕ) → Stands before s → l < length members → bit_at s.seen l ≢ 1 → Stands (before ++ l ∷ []) (record { seen = bit_or s.seen (2 ^ l); dead = s.dead })
  fresh before s l h b d = record {
    alive = λ e.
        let g = h.alive e in (
          All-append (λ k. k < length members) before (l ∷ []) g.0 (All-cons (λ k. k < length members) l [] b (All-nil (λ k. k < length members))),
          λ j c. elim (cases_eq l j) [
            | inl m ↦ (
                let a = in_append j before (l ∷ []) in let o = in_one j l m in let t = bit_at-lt s.seen l in
                let z : count_in j before ≡ bit_at s.seen l = sym (h.bits e j c) ∙ ap (bit_at s.seen) (sym m) in
                let n = not_one (bit_at s.seen l) t d in omega arith)
            | inr m ↦ (let a = in_append j before (l ∷ []) in let o = in_none j l m in let k = g.1 j c in omega arith)
          ],
        );
    gone = λ g. h.gone (good_front before l g);
    bits = λ e j c. elim (cases_eq l j) [
      | inl m ↦ (
          let a = in_append j before (l ∷ []) in let o = in_one j l m in
          let t = bit_at-lt s.seen l in let n = not_one (bit_at s.seen l) t d in
          let z : count_in j before ≡ bit_at s.seen l = sym (h.bits e j c) ∙ ap (bit_at s.seen) (sym m) in
          let y : bit_at s.seen j ≡ bit_at s.seen l = ap (bit_at s.seen) (sym m) in
          let p : bit_at (2 ^ l) j ≡ 1 = ap (bit_at (2 ^ l)) (sym m) ∙ bit_at-pow_same l in
          let q = bit_at_or s.seen (2 ^ l) j in omega arith)
      | inr m ↦ (
          let a = in_append j before (l ∷ []) in let o = in_none j l m in let z = h.bits e j c in
          let p : bit_at (2 ^ l) j ≡ 0 = bit_at-pow_other l j (λ k. m (sym k)) in
          let q = bit_at_or s.seen (2 ^ l) j in omega arith)
    ];
  }
    where
      not_one : (n : ℕ) → n < 2 → n ≢ 1 → n ≡ 0
      not_one zero l d = refl
      not_one (suc zero) l d = absurd (d refl)
      not_one (suc (suc n)) l d = absurd (omega arith)

  -- a letter that is none, or that has come before
  stale : (before : List ℕ) (s : AllState) (l : ℕ) → Stands before s → (l < length members → bit_at s.seen l ≡ 1) → Stands (before ++ l ∷ []) (record { seen = s.seen; dead = true })
  stale before s l h again = record {
    alive = λ e. absurd (false≢true (sym e));
    gone = λ g. absurd (
        let k = good_last before l g in let e = h.gone (good_front before l g) in
        let z = h.bits e l k.0 in let o = again k.0 in let c = k.1 in omega arith);
    bits = λ e. absurd (false≢true (sym e));
  }

  pub next_stands : (before : List ℕ) (s : AllState) (l : ℕ) → (l < length members) ⊎ (64 ≤ l) → Stands before s → Stands (before ++ l ∷ []) (next_of s l)
  next_stands before s l (inr big) h =
      let e : is_new s l ≡ false = (let t : nat_lt l 64 ≡ false = lt_false l 64 big in rw t refl) in
      rw e (stale before s l h (λ b. absurd (omega arith)))
    where
      lt_false : (a b : ℕ) → b ≤ a → nat_lt a b ≡ false
      lt_false a b k = grind (arith, nat_tests)
  next_stands before s l (inl b) h = by (bit_at s.seen l == 1) refl
    where
      t : nat_lt l 64 ≡ true
      t = lt_true l 64 (omega arith)

      by : (x : Bool) → (bit_at s.seen l == 1) ≡ x → Stands (before ++ l ∷ []) (next_of s l)
      by true e =
          let n : is_new s l ≡ false = rw (t, e) refl in
          rw n (stale before s l h (λ k. eqb-true (bit_at s.seen l) 1 e))
      by false e =
          let n : is_new s l ≡ true = rw (t, e) refl in
          rw n (fresh before s l h b (λ k. false≢true (sym e ∙ eq-eqb (bit_at s.seen l) 1 k)))

  -- each letter is of a member, or past all numbers of members
  abbrev pub AreKnown : List ℕ → Type 0
  AreKnown ls = All (λ l. (l < length members) ⊎ (64 ≤ l)) ls

  pub run_stands : (before ls : List ℕ) (s : AllState) → AreKnown ls → Stands before s → Stands (before ++ ls) (run s ls)
  run_stands before [] s known h = subst (λ (xs : List ℕ). Stands xs s) (sym (append-nil before)) h
  run_stands before (l ∷ ls) s known h =
      subst (λ (xs : List ℕ). Stands xs (run (next_of s l) ls)) (append_assoc before (l ∷ []) ls)
      (run_stands (before ++ l ∷ []) ls (next_of s l) (All-tail (λ l. (l < length members) ⊎ (64 ≤ l)) l ls known)
      (next_stands before s l (All-head (λ l. (l < length members) ⊎ (64 ≤ l)) l ls known) h))

  pub start_stands : Stands [] (record { seen = 0; dead = false })
  start_stands = record {
    alive = λ e. (All-nil (λ k. k < length members), λ j b. (let z : count_in j [] ≡ 0 = refl in omega arith));
    gone = λ g. refl;
    bits = λ e j b. bit_at-zero j;
  }

-- what is dead stays dead
pub dead_stays : (ls : List ℕ) (s : AllState) → s.dead ≡ true → (run s ls).dead ≡ true
dead_stays [] s e = e
dead_stays (l ∷ ls) s e = dead_stays ls (next_of s l) (by (is_new s l) refl)
  where
    by : (b : Bool) → is_new s l ≡ b → (next_of s l).dead ≡ true
    by true n = rw n e
    by false n = rw n refl
