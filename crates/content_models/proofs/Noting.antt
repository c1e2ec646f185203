-- The letters of symbols, member by member.
use Rattle.std.proofs.Common.{◌≡◌, ◌≢◌, ℕ, zero, suc, ◌+◌, ◌<◌, ◌≤◌, ◌==◌, ◌||◌, ◌⊎◌, Bool, true, false, List, [], ◌∷◌, ◌++◌, Option, Some, None, length, get_or, take, set, replicate, refl, sym, ap, subst, ◌∙◌, inl, inr, arith, eq-eqb, eqb-true}
use Rattle.std.specs.Prelude.{MatchOption, All}
use Rattle.std.specs.List.{list_any}
use Rattle.std.specs.Option.{option_or}
use Rattle.std.proofs.lemmas.Bool.{cases_eq, cases_lt, false≢true}
use Rattle.std.proofs.lemmas.List.{take_more, length-set, get_or-set_same, get_or-set_other, get_or-replicate, length-replicate, get_or_past}
use Rattle.std.proofs.lemmas.List.Folds.{list_any-append}
use Rattle.std.proofs.lemmas.List.Elements.{All-head, All-tail}
use Rattle.content_models.specs.Letters.{has, has_at, IsLetterOf, AreApart, Meet, AreLettersOf, IsNoted, AreNoted}

has_more : (row : List ℕ) (i : ℕ) → i < length row → (n : ℕ) → has (take (i + 1) row) n ≡ (has (take i row) n || (get_or row i 0 == n))
has_more row i l n = ap (list_any (λ m. m == n)) (take_more row i 0 l) ∙ (list_any-append (λ m. m == n) (take i row) (get_or row i 0 ∷ []) ∙ ap (λ b. has (take i row) n || b) (or_false (get_or row i 0 == n)))
  where
    or_false : (b : Bool) → (b || false) ≡ b
    or_false true = refl
    or_false false = refl

or_true : (a b : Bool) → (a || b) ≡ true → (a ≡ true) ⊎ (b ≡ true)
or_true true b t = inl refl
or_true false b t = inr t

none_of : (a b : Bool) → (a || b) ≡ false → (a ≡ false) × (b ≡ false)
none_of true b t = absurd (false≢true (sym t))
none_of false b t = (refl, t)

has_cases : (row : List ℕ) (i : ℕ) → i < length row → (n : ℕ) → has (take (i + 1) row) n ≡ true → (has (take i row) n ≡ true) ⊎ (n ≡ get_or row i 0)
has_cases row i l n t = elim (or_true (has (take i row) n) (get_or row i 0 == n) (sym (has_more row i l n) ∙ t)) [
  | inl a ↦ inl a
  | inr b ↦ inr (sym (eqb-true (get_or row i 0) n b))
]

has_neither : (row : List ℕ) (i : ℕ) → i < length row → (n : ℕ) → has (take (i + 1) row) n ≡ false → (has (take i row) n ≡ false) × (n ≢ get_or row i 0)
has_neither row i l n t =
    let h = none_of (has (take i row) n) (get_or row i 0 == n) (sym (has_more row i l n) ∙ t) in
    (h.0, λ e. false≢true (sym h.1 ∙ eq-eqb (get_or row i 0) n (sym e)))

has_last : (row : List ℕ) (i : ℕ) → i < length row → (n : ℕ) → n ≡ get_or row i 0 → has (take (i + 1) row) n ≡ true
has_last row i l n e = has_more row i l n ∙ (ap (λ b. has (take i row) n || b) (eq-eqb (get_or row i 0) n (sym e)) ∙ or_right (has (take i row) n))
  where
    or_right : (b : Bool) → (b || true) ≡ true
    or_right true = refl
    or_right false = refl

pub noted_none : (old : List ℕ) (member : ℕ) → AreNoted old member [] old None
noted_none old member = record {
  many = refl;
  fresh = λ n l t. absurd (false≢true t);
  known = λ n l d. refl;
  others = λ n l e. refl;
  pair = λ n t. absurd (false≢true t);
}

-- an earlier member that accepts one of the symbols, or none
abbrev pub IsMet : List ℕ → ℕ → List ℕ → Option (ℕ × ℕ) → Type 0
IsMet old member row pair =
    MatchOption pair
    ((n : ℕ) → has row n ≡ true → get_or old n 64 ≡ 64)
    (λ p. (p.1 ≡ member) × (p.0 ≢ 64) × (n : ℕ) × (n < length old) × (has row n ≡ true) × (get_or old n 64 ≡ p.0))

module _ (old now new : List ℕ) (member : ℕ) (row : List ℕ) (i n0 : ℕ) (pair found : Option (ℕ × ℕ)) (are : AreNoted old member (take i row) now pair) (unlike : (n : ℕ) → get_or old n 64 ≢ member)
    (l : i < length row) (is : n0 ≡ get_or row i 0) (within : n0 < length old) where
  was : get_or now n0 64 ≡ 64 → get_or old n0 64 ≡ 64
  was e = elim (cases_eq (get_or old n0 64) 64) [
    | inl o ↦ o
    | inr d ↦ sym (are.known n0 within d) ∙ e
  ]

  was_new : get_or now n0 64 ≡ member → get_or old n0 64 ≡ 64
  was_new e = elim (cases_eq (get_or old n0 64) 64) [
    | inl o ↦ o
    | inr d ↦ absurd (unlike n0 (sym (are.known n0 within d) ∙ e))
  ]

  was_other : get_or now n0 64 ≢ 64 → get_or now n0 64 ≢ member → get_or old n0 64 ≡ get_or now n0 64
  was_other d u = elim (cases_eq (get_or old n0 64) 64) [
    | inl o ↦ by o (has (take i row) n0) refl
    | inr k ↦ sym (are.known n0 within k)
  ]
    where
      by : get_or old n0 64 ≡ 64 → (b : Bool) → has (take i row) n0 ≡ b → get_or old n0 64 ≡ get_or now n0 64
      by o true t = absurd (u (are.fresh n0 within t o))
      by o false t = absurd (d (are.others n0 within t ∙ o))

  earlier : (n : ℕ) → has (take (i + 1) row) n ≡ true → n ≢ n0 → has (take i row) n ≡ true
  earlier n t d = elim (has_cases row i l n t) [
    | inl a ↦ a
    | inr b ↦ absurd (d (b ∙ sym is))
  ]

  now_within : n0 < length now
  now_within = let m = are.many in omega arith

  at_new : new ≡ set now n0 member → (n : ℕ) → n ≡ n0 → get_or new n 64 ≡ member
  at_new e n s = ap (λ xs. get_or xs n 64) e ∙ (ap (λ k. get_or (set now n0 member) k 64) s ∙ get_or-set_same now n0 member 64 now_within)

  past_new : new ≡ set now n0 member → (n : ℕ) → n ≢ n0 → get_or new n 64 ≡ get_or now n 64
  past_new e n d = ap (λ xs. get_or xs n 64) e ∙ get_or-set_other now n0 n member 64 d

  grow_pair : get_or old n0 64 ≡ 64 → (p : Option (ℕ × ℕ)) → IsMet old member (take i row) p → IsMet old member (take (i + 1) row) p
  grow_pair o None h = λ n t. elim (has_cases row i l n t) [
    | inl a ↦ h n a
    | inr b ↦ ap (λ k. get_or old k 64) (b ∙ sym is) ∙ o
  ]
  grow_pair o (Some p) h = (h.0, h.1, h.2, h.3, (has_more row i l h.2 ∙ ap (λ b. b || (get_or row i 0 == h.2)) h.4), h.5)

  pub noted_more : IsNoted now member n0 new found → AreNoted old member (take (i + 1) row) new (option_or found pair)
  noted_more one = elim (cases_eq (get_or now n0 64) 64) [
    | inl e ↦ (
        let f = one.fresh e in
        let o : get_or old n0 64 ≡ 64 = was e in record {
          many = ap length f.0 ∙ (length-set now n0 member ∙ are.many);
          fresh = λ n b t q. elim (cases_eq n n0) [
            | inl s ↦ at_new f.0 n s
            | inr d ↦ past_new f.0 n d ∙ are.fresh n b (earlier n t d) q
          ];
          known = λ n b d. past_new f.0 n (λ s. d (ap (λ k. get_or old k 64) s ∙ o)) ∙ are.known n b d;
          others = λ n b t. (let h = has_neither row i l n t in past_new f.0 n (λ s. h.1 (s ∙ is)) ∙ are.others n b h.0);
          pair = subst (λ (x : Option (ℕ × ℕ)). IsMet old member (take (i + 1) row) (option_or x pair)) (sym f.1) (grow_pair o pair are.pair);
        })
    | inr d ↦ elim (cases_eq (get_or now n0 64) member) [
      | inl e ↦ (
          let f = one.again e in
          let o : get_or old n0 64 ≡ 64 = was_new e in
          subst (λ (xs : List ℕ). AreNoted old member (take (i + 1) row) xs (option_or found pair)) (sym f.0) (record {
            many = are.many;
            fresh = λ n b t q. elim (cases_eq n n0) [
              | inl s ↦ ap (λ k. get_or now k 64) s ∙ e
              | inr u ↦ are.fresh n b (earlier n t u) q
            ];
            known = are.known;
            others = λ n b t. are.others n b (has_neither row i l n t).0;
            pair = subst (λ (x : Option (ℕ × ℕ)). IsMet old member (take (i + 1) row) (option_or x pair)) (sym f.1) (grow_pair o pair are.pair);
          }))
      | inr u ↦ (
          let f = one.met d u in
          let o : get_or old n0 64 ≡ get_or now n0 64 = was_other d u in
          subst (λ (xs : List ℕ). AreNoted old member (take (i + 1) row) xs (option_or found pair)) (sym f.0) (record {
            many = are.many;
            fresh = λ n b t q. elim (cases_eq n n0) [
              | inl s ↦ absurd (d (sym o ∙ (ap (λ k. get_or old k 64) (sym s) ∙ q)))
              | inr v ↦ are.fresh n b (earlier n t v) q
            ];
            known = are.known;
            others = λ n b t. are.others n b (has_neither row i l n t).0;
            pair = subst (λ (x : Option (ℕ × ℕ)). IsMet old member (take (i + 1) row) (option_or x pair)) (sym f.1)
                (refl, d, n0, within, has_last row i l n0 is, o);
          }))
    ]
  ]

-- ---- member by member
pub letters_none : (accepted : List (List ℕ)) (symbols : ℕ) (letters : List ℕ) → letters ≡ replicate symbols 64 → AreLettersOf accepted 0 symbols letters None
letters_none accepted symbols letters e = record {
  many = ap length e ∙ length-replicate symbols 64;
  each = λ n l. inl (ap (λ xs. get_or xs n 64) e ∙ get_or-replicate symbols n 64 64 l, λ k b. absurd (omega arith));
  pair = λ n j k a b. absurd (omega arith);
}

module _ (accepted : List (List ℕ)) (i symbols : ℕ) (letters new : List ℕ) (pair found : Option (ℕ × ℕ)) (are : AreLettersOf accepted i symbols letters pair) (small : i < 64) where
  pub letters_unlike : (n : ℕ) → get_or letters n 64 ≢ i
  letters_unlike n e = elim (cases_lt n symbols) [
    | inl l ↦ elim (are.each n l) [
      | inl z ↦ (let a = z.0 in absurd (omega arith))
      | inr z ↦ (let a = z.0 in absurd (omega arith))
    ]
    | inr l ↦ (let p : get_or letters n 64 ≡ 64 = get_or_past letters n 64 (let m = are.many in omega arith) in absurd (omega arith))
  ]

  module _ (row : List ℕ) (row_is : row ≡ get_or accepted i []) (noted : AreNoted letters i row new found) (below : (n : ℕ) → has row n ≡ true → n < symbols) where
    row_has : (n : ℕ) → has row n ≡ has_at accepted i n
    row_has n = ap (λ xs. has xs n) row_is

    within : (n : ℕ) → n < symbols → n < length letters
    within n l = let m = are.many in omega arith

    each_more : (n : ℕ) → n < symbols → IsLetterOf accepted (i + 1) n (get_or new n 64)
    each_more n l = elim (are.each n l) [
      | inl z ↦ by z (has row n) refl
      | inr z ↦ (
          let a = z.0 in
          let k = noted.known n (within n l) (λ e. omega arith) in
          inr (subst (λ (x : ℕ). (x < i + 1) × (has_at accepted x n ≡ true)) (sym k) (omega arith, z.1)))
    ]
      where
        by : (get_or letters n 64 ≡ 64) × ((k : ℕ) → k < i → has_at accepted k n ≡ false) → (b : Bool) → has row n ≡ b → IsLetterOf accepted (i + 1) n (get_or new n 64)
        by z true t =
            let k = noted.fresh n (within n l) t z.0 in
            inr (subst (λ (x : ℕ). (x < i + 1) × (has_at accepted x n ≡ true)) (sym k) (omega arith, sym (row_has n) ∙ t))
        by z false t =
            let k = noted.others n (within n l) t in
            inl (
              k ∙ z.0,
              λ j b. elim (cases_eq j i) [
                | inl e ↦ ap (λ x. has_at accepted x n) e ∙ (sym (row_has n) ∙ t)
                | inr d ↦ z.1 j (omega arith)
              ],
            )

    -- no earlier member accepts a symbol whose letter is none
    no_earlier : (n : ℕ) → n < symbols → get_or letters n 64 ≡ 64 → (k : ℕ) → k < i → has_at accepted k n ≡ true → ⊥
    no_earlier n l e k b t = elim (are.each n l) [
      | inl z ↦ false≢true (sym (z.1 k b) ∙ t)
      | inr z ↦ (let a = z.0 in omega arith)
    ]

    apart_more : AreApart accepted i → ((n : ℕ) → has row n ≡ true → get_or letters n 64 ≡ 64) → AreApart accepted (i + 1)
    apart_more apart free n j k a b s t = elim (cases_eq j i) [
      | inl e ↦ elim (cases_eq k i) [
        | inl f ↦ e ∙ sym f
        | inr f ↦ (
            let r : has row n ≡ true = row_has n ∙ (ap (λ x. has_at accepted x n) (sym e) ∙ s) in
            absurd (no_earlier n (below n r) (free n r) k (omega arith) t))
      ]
      | inr e ↦ elim (cases_eq k i) [
        | inl f ↦ (
            let r : has row n ≡ true = row_has n ∙ (ap (λ x. has_at accepted x n) (sym f) ∙ t) in
            absurd (no_earlier n (below n r) (free n r) j (omega arith) s))
        | inr f ↦ apart n j k (omega arith) (omega arith) s t
      ]
    ]

    meet_more : (p : ℕ × ℕ) → Meet accepted i symbols p → Meet accepted (i + 1) symbols p
    meet_more p h = let a = h.0 in let b = h.1 in (omega arith, omega arith, h.2, h.3, h.4, h.5, h.6)

    met_meet : (p : ℕ × ℕ) → (p.1 ≡ i) × (p.0 ≢ 64) × (n : ℕ) × (n < length letters) × (has row n ≡ true) × (get_or letters n 64 ≡ p.0) → Meet accepted (i + 1) symbols p
    met_meet p h =
        let n = h.2 in let l : n < symbols = (let m = are.many in let k = h.3 in omega arith) in
        elim (are.each n l) [
          | inl z ↦ absurd (h.1 (sym h.5 ∙ z.0))
          | inr z ↦ (
              let a = z.0 in let e = h.5 in let f = h.0 in (
                omega arith,
                omega arith,
                (λ g. omega arith),
                n,
                l,
                ap (λ x. has_at accepted x n) (sym e) ∙ z.1,
                ap (λ x. has_at accepted x n) f ∙ (sym (row_has n) ∙ h.4),
              ))
        ]

    pair_more : (old met : Option (ℕ × ℕ)) → MatchOption old (AreApart accepted i) (Meet accepted i symbols) →
        MatchOption met
        ((n : ℕ) → has row n ≡ true → get_or letters n 64 ≡ 64)
        (λ p. (p.1 ≡ i) × (p.0 ≢ 64) × (n : ℕ) × (n < length letters) × (has row n ≡ true) × (get_or letters n 64 ≡ p.0)) →
        MatchOption (option_or old met) (AreApart accepted (i + 1)) (Meet accepted (i + 1) symbols)
    pair_more None None apart free = apart_more apart free
    pair_more None (Some p) apart m = met_meet p m
    pair_more (Some p) met h m = meet_more p h

    pub letters_more : AreLettersOf accepted (i + 1) symbols new (option_or pair found)
    letters_more = record {
      many = noted.many ∙ are.many;
      each = each_more;
      pair = pair_more pair found are.pair noted.pair;
    }

-- a list whose numbers are small has small ones alone
pub has_below : (m : ℕ) (row : List ℕ) → All (λ n. n < m) row → (n : ℕ) → has row n ≡ true → n < m
has_below m [] b n h = absurd (false≢true h)
has_below m (x ∷ row) b n h = by (x == n) refl (has_below m row (All-tail (λ n. n < m) x row b) n)
  where
    by : (c : Bool) → (x == n) ≡ c → (has row n ≡ true → n < m) → n < m
    by true e rec = subst (λ (k : ℕ). k < m) (eqb-true x n e) (All-head (λ n. n < m) x row b)
    by false e rec = rec (rw e at h)
