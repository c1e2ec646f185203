-- The words of a repeat, by its copies in a row.
use Rattle.std.proofs.Common.{◌≡◌, ℕ, zero, suc, ◌+◌, ◌-◌, ◌*◌, ◌<◌, ◌≤◌, min, max, ◌⊎◌, ◌↔◌, ◌||◌, ◌==◌, IsTrue, List, [], ◌∷◌, ◌++◌, Some, None, Contains, sym, refl, ap, ◌∙◌, inl, inr, arith, append-nil, append_assoc, eqb-true, zero-add, zero-mul, suc-mul, mul-le-mul_right}
use Rattle.std.specs.List.Sorted.{IsStrictlyIncreasing}
use Rattle.std.proofs.lemmas.Bool.{cases_lt, or_cases, or_left, or_right}
use Rattle.xs_positions.specs.Tree.{Tree, repeat, size}
use Rattle.xs_positions.specs.PositionWords.{IsWord, Rounds, place, Ends, Passes, HasWord}
use Rattle.xs_positions.specs.Measures.{has_empty, has_word}
use Rattle.xs_positions.specs.Sets.{Sets, Describes}
use Rattle.xs_positions.specs.Walk.{CopyOf, WithinRounds}
use Rattle.xs_positions.proofs.Languages.{Joins, empty_join, ends_join}
use Rattle.xs_positions.proofs.Rounds.{rounds_split, rounds_append, rounds_last, rounds_go_on, empty_rounds, rounds_same, rounds_from, Plus}
use Rattle.xs_positions.proofs.Worded.{empty_is, word_is, words_within, passes_at}
use Rattle.xs_positions.proofs.Describing.{Describes-as, ends_passes}

module _ (t : Tree) (b : ℕ) where
  abbrev C : ℕ → List ℕ → Type 0
  C j u = CopyOf t b j u

  -- each copy has a word where the part has
  pub copy_words : IsTrue (has_word t) → (j : ℕ) → HasWord (C j)
  copy_words h j = (word_is t (b + j * size t)).0 h

  pub copy_empty : IsTrue (has_empty t) → (j : ℕ) → C j []
  copy_empty h j = (empty_is t (b + j * size t)).0 h

  -- the empty word of so many copies in a row
  pub rounds_empty : (k : ℕ) → IsTrue (k == 0 || has_empty t) ↔ Rounds C k 0 []
  rounds_empty zero = ((λ h. refl), (λ h. or_left (0 == 0) (has_empty t) refl))
  rounds_empty (suc k) = (
    (λ h. elim (or_cases (suc k == 0) (has_empty t) h) [
      | inl e ↦ (let a : suc k ≡ 0 = eqb-true (suc k) 0 e in absurd (omega arith))
      | inr e ↦ empty_rounds C (copy_empty e) (suc k) 0
    ]),
    (λ h. let e = empty_join (C 0) (Rounds C k 1) h in or_right (suc k == 0) (has_empty t) ((empty_is t (b + 0 * size t)).1 e.0)),
  )

  -- words of fewer copies end where words of more do, where each copy may be empty
  pub ends_go_on : IsTrue (has_empty t) → (n k p : ℕ) → Ends (WithinRounds t b n k) p → Ends (Rounds C k 0) p
  ends_go_on e n k p h =
      let r : ℕ = h.1.0 in
      let a : r ≤ k = h.1.1.1 in
      let more = rounds_append C r (k - r) 0 (h.0 ++ p ∷ []) [] h.1.2 (rw zero-add (empty_rounds C (copy_empty e) (k - r) r)) in
      let same : r + (k - r) ≡ k = omega arith in
      (h.0, rw (same, append-nil) at more)

  -- so many copies, the last of which may not be empty, end with the last of them
  pub ends_last : (IsTrue (has_empty t) → ⊥) → (k p : ℕ) → Ends (Rounds C (k + 1) 0) p → (b + k * size t ≤ p)
  ends_last n k p h =
      elim (ends_join (Rounds C k 0) (C k) p (h.0, rounds_last C k (h.0 ++ p ∷ []) h.1)) [
        | inl g ↦ (words_within t (b + k * size t) p (ends_passes (C k) p g.0)).0
        | inr g ↦ absurd (n ((empty_is t (b + k * size t)).1 g.0))
      ]

  copies_inside : (i k s : ℕ) → i < k → i * s + s ≤ k * s
  copies_inside i k s l = let x : suc i * s ≤ k * s = mul-le-mul_right s l in let y : suc i * s ≡ i * s + s = suc-mul i s in omega arith

  pub ends_before : (n k p : ℕ) → Ends (WithinRounds t b n k) p → p < b + k * size t
  ends_before n k p h =
      let r : ℕ = h.1.0 in
      let a : r ≤ k = h.1.1.1 in
      let q = passes_at C p r 0 (h.0, [], h.1.2) in
      let w = words_within t (b + q.0 * size t) p q.3 in
      let f = copies_inside q.0 k (size t) (omega arith) in
      omega arith

  -- one copy more
  pub ends_more : (n k p : ℕ) → n ≤ k + 1 → (Ends (WithinRounds t b n k) p ⊎ Ends (Rounds C (k + 1) 0) p) → Ends (WithinRounds t b n (k + 1)) p
  ends_more n k p l (inl h) = let a : h.1.0 ≤ k = h.1.1.1 in (h.0, (h.1.0, (h.1.1.0, omega arith), h.1.2))
  ends_more n k p l (inr h) = (h.0, (k + 1, (l, omega arith), h.1))

  ends_at : (n k p : ℕ) (f : List ℕ) (r : ℕ) → n ≤ r → r ≤ k + 1 → Rounds C r 0 (f ++ p ∷ []) → (n ≤ k + 1) × (Ends (WithinRounds t b n k) p ⊎ Ends (Rounds C (k + 1) 0) p)
  ends_at n k p f r low high h = (
    omega arith,
    elim (cases_lt r (k + 1)) [
      | inl l ↦ inl (f, (r, (low, omega arith), h))
      | inr g ↦ inr (f, (let e : r ≡ k + 1 = omega arith in rw e at h))
    ],
  )

  pub more_ends : (n k p : ℕ) → Ends (WithinRounds t b n (k + 1)) p → (n ≤ k + 1) × (Ends (WithinRounds t b n k) p ⊎ Ends (Rounds C (k + 1) 0) p)
  more_ends n k p h = ends_at n k p h.0 h.1.0 h.1.1.0 h.1.1.1 h.1.2

  no_end : (p : ℕ) (w : List ℕ) → w ++ p ∷ [] ≡ [] → ⊥
  no_end p [] e = cc
  no_end p (x ∷ w) e = cc

  rounds_end : (p : ℕ) (f : List ℕ) (r : ℕ) → r ≤ 0 → Rounds C r 0 (f ++ p ∷ []) → ⊥
  rounds_end p f zero l h = no_end p f h
  rounds_end p f (suc r) l h = absurd (omega arith)

  pub ends_none : (n p : ℕ) → Ends (WithinRounds t b n 0) p → ⊥
  ends_none n p h = rounds_end p h.0 h.1.0 h.1.1.1 h.1.2

  -- ---- a repeat with an upper bound
  module _ (n m : ℕ) (le : n ≤ m) (some : IsTrue (has_word t)) where
    abbrev V : ℕ → List ℕ → Type 0
    V j u = IsWord t (place b m (size t) j) u

    place_is : (j : ℕ) → j < m → place b m (size t) j ≡ b + j * size t
    place_is j l = let e : min j (m - 1) ≡ j = omega arith in ap (λ k. b + k * size t) e

    to_copies : (k : ℕ) (w : List ℕ) → k ≤ m → Rounds V k 0 w → Rounds C k 0 w
    to_copies k w l r = rounds_same V C 0 m (λ j low high u h. (let e = place_is j high in rw e at h)) k 0 w (omega arith) (omega arith) r

    from_copies : (k : ℕ) (w : List ℕ) → k ≤ m → Rounds C k 0 w → Rounds V k 0 w
    from_copies k w l r = rounds_same C V 0 m (λ j low high u h. (let e = place_is j high in rw e h)) k 0 w (omega arith) (omega arith) r

    -- a word of a repeat is one of some copies, and goes on to one of all
    goes_on : (w : List ℕ) → IsWord (repeat t n (Some m)) b w → (v : List ℕ) × Rounds C m 0 (w ++ v)
    goes_on w h = rounds_go_on C (copy_words some) h.0 m w h.1.1 (to_copies h.0 w h.1.1 h.2)

    all_copies : (w : List ℕ) → Rounds C m 0 w → IsWord (repeat t n (Some m)) b w
    all_copies w r = (m, (le, omega arith), from_copies m w (omega arith) r)

    pub Describes-within : (s : Sets) (ends : List ℕ) → Describes (Rounds C m 0) b (m * size t) s →
        ((p : ℕ) → Contains ends p ↔ Ends (WithinRounds t b n m) p) → IsStrictlyIncreasing ends →
        Describes (IsWord (repeat t n (Some m)) b) b (m * size t) (record s { last = ends; loops = [] })
    Describes-within s ends d last rises = record {
      first = λ p. (
        (λ h. let g = (d.first p).0 h in (g.0, all_copies (p ∷ g.0) g.1)),
        (λ h. let g = goes_on (p ∷ h.0) h.1 in (d.first p).1 (h.0 ++ g.0, g.1)),
      );
      last = λ p. (
        (λ h. let g = (last p).0 h in (g.0, (g.1.0, g.1.1, from_copies g.1.0 (g.0 ++ p ∷ []) g.1.1.1 g.1.2))),
        (λ h. (last p).1 (h.0, (h.1.0, h.1.1, to_copies h.1.0 (h.0 ++ p ∷ []) h.1.1.1 h.1.2))),
      );
      follow = λ i p l. (
        (λ h. let g = (d.follow i p l).0 h in (g.0, g.1, all_copies (g.0 ++ (b + i) ∷ p ∷ g.1) g.2)),
        (λ h. let g = goes_on (h.0 ++ (b + i) ∷ p ∷ h.1) h.2 in (d.follow i p l).1 (h.0, h.1 ++ g.0, (let e : (h.0 ++ (b + i) ∷ p ∷ h.1) ++ g.0 ≡ h.0 ++ (b + i) ∷ p ∷ (h.1 ++ g.0) = append_assoc h.0 ((b + i) ∷ p ∷ h.1) g.0 in rw e at g.1))),
      );
      useful = λ i l. (
        (λ h. let g = (d.useful i l).0 h in (g.0, g.1, all_copies (g.0 ++ (b + i) ∷ g.1) g.2)),
        (λ h. (d.useful i l).1 (passes_on (b + i) h.0 h.1 h.2)),
      );
      within = λ p h. d.within p (passes_on p h.0 h.1 h.2);
      follow_count = d.follow_count;
      useful_count = d.useful_count;
      first_rises = d.first_rises;
      last_rises = rises;
      loops = λ k x l. absurd (omega arith);
    }
      where
        passes_on : (p : ℕ) (f r : List ℕ) → IsWord (repeat t n (Some m)) b (f ++ p ∷ r) → Passes (Rounds C m 0) p
        passes_on p f r h =
            let g = goes_on (f ++ p ∷ r) h in
            let e : (f ++ p ∷ r) ++ g.0 ≡ f ++ p ∷ (r ++ g.0) = append_assoc f (p ∷ r) g.0 in
            (f, r ++ g.0, rw e at g.1)

  -- ---- at most one copy
  module _ (n : ℕ) (le : n ≤ 1) where
    once_place : place b 1 (size t) 0 ≡ b
    once_place = let z = zero-mul (size t) in omega arith

    once_to : (w : List ℕ) → IsWord t b w → IsWord (repeat t n (Some 1)) b w
    once_to w h = (1, (le, omega arith), (w, [], (let e : w ++ [] ≡ w = simp append-nil refl in sym e), rw once_place h, refl))

    once_from : (w : List ℕ) → IsWord (repeat t n (Some 1)) b w → (w ≡ []) ⊎ IsWord t b w
    once_from w (zero, l, r) = inl r
    once_from w (suc zero, l, r) =
        let e : r.0 ++ [] ≡ r.0 = simp append-nil refl in
        let same : w ≡ r.0 = r.2 ∙ (ap (λ x. r.0 ++ x) r.4 ∙ e) in
        inr (rw same (rw once_place at r.3))
    once_from w (suc (suc k), l, r) = absurd (let a : suc (suc k) ≤ 1 = l.1 in omega arith)

    no_middle : (p : ℕ) (w v : List ℕ) → w ++ p ∷ v ≡ [] → ⊥
    no_middle p [] v e = cc
    no_middle p (x ∷ w) v e = cc

    pub Describes-once : (k : ℕ) (s : Sets) → Describes (IsWord t b) b k s → Describes (IsWord (repeat t n (Some 1)) b) b k s
    Describes-once k s d =
        Describes-as (IsWord t b) (IsWord (repeat t n (Some 1)) b) b k s
        (λ p. ((λ h. (h.0, once_to _ h.1)), (λ h. elim (once_from _ h.1) [ inl e ↦ absurd (no_middle p [] h.0 e) | inr g ↦ (h.0, g) ])))
        (λ p. ((λ h. (h.0, once_to _ h.1)), (λ h. elim (once_from _ h.1) [ inl e ↦ absurd (no_middle p h.0 [] e) | inr g ↦ (h.0, g) ])))
        (λ p q. ((λ h. (h.0, h.1, once_to _ h.2)), (λ h. elim (once_from _ h.2) [ inl e ↦ absurd (no_middle p h.0 (q ∷ h.1) e) | inr g ↦ (h.0, h.1, g) ])))
        (λ p. ((λ h. (h.0, h.1, once_to _ h.2)), (λ h. elim (once_from _ h.2) [ inl e ↦ absurd (no_middle p h.0 h.1 e) | inr g ↦ (h.0, h.1, g) ]))) d

  -- ---- a repeat with no upper bound
  module _ (n c : ℕ) (c_is : max n 1 ≡ c + 1) where
    abbrev U : ℕ → List ℕ → Type 0
    U j u = IsWord t (place b (max n 1) (size t) j) u

    early : (j : ℕ) → j < c → place b (max n 1) (size t) j ≡ b + j * size t
    early j l = let e : min j (max n 1 - 1) ≡ j = omega arith in ap (λ k. b + k * size t) e

    late : (j : ℕ) → c ≤ j → place b (max n 1) (size t) j ≡ b + c * size t
    late j l = let e : min j (max n 1 - 1) ≡ c = omega arith in ap (λ k. b + k * size t) e

    early_to : (w : List ℕ) → Rounds U c 0 w → Rounds C c 0 w
    early_to w r = rounds_same U C 0 c (λ j low high u h. (let e = early j high in rw e at h)) c 0 w (omega arith) (omega arith) r

    early_from : (w : List ℕ) → Rounds C c 0 w → Rounds U c 0 w
    early_from w r = rounds_same C U 0 c (λ j low high u h. (let e = early j high in rw e h)) c 0 w (omega arith) (omega arith) r

    late_to : (k : ℕ) (w : List ℕ) → Rounds U k c w → Rounds (λ _. C c) k 0 w
    late_to k w r =
        rounds_from (C c) k c 0 w (rounds_same U (λ _. C c) c (c + k) (λ j low high u h. (let e = late j low in rw e at h)) k c w (omega arith) (omega arith) r)

    late_from : (k : ℕ) (w : List ℕ) → Rounds (λ _. C c) k 0 w → Rounds U k c w
    late_from k w r =
        rounds_same (λ _. C c) U c (c + k) (λ j low high u h. (let e = late j low in rw e h)) k c w (omega arith) (omega arith) (rounds_from (C c) k 0 c w r)

    -- a word is one of the first copies and then one or more of the last; or there is no round at all
    split_word : (k : ℕ) (w : List ℕ) → n ≤ k → Rounds U k 0 w → (w ≡ []) ⊎ Joins (Rounds C c 0) (Plus (C c)) w
    split_word k w l r = elim (cases_lt k (c + 1)) [
      | inl s ↦ inl (no_round k (omega arith) r)
      | inr g ↦
          let e : k ≡ c + suc (k - (c + 1)) = omega arith in
          let m = rounds_split U c (suc (k - (c + 1))) 0 w (rw e at r) in
          inr (m.0, m.1, m.2, early_to m.0 m.3, (k - (c + 1), late_to (suc (k - (c + 1))) m.1 (rw zero-add at m.4)))
    ]
      where
        no_round : (k : ℕ) → k ≤ 0 → Rounds U k 0 w → w ≡ []
        no_round zero l r = r
        no_round (suc k) l r = absurd (omega arith)

    pub unbounded_to : (w : List ℕ) → IsWord (repeat t n None) b w → (w ≡ []) ⊎ Joins (Rounds C c 0) (Plus (C c)) w
    unbounded_to w h = split_word h.0 w h.1 h.2

    pub unbounded_from : (w : List ℕ) → Joins (Rounds C c 0) (Plus (C c)) w → IsWord (repeat t n None) b w
    unbounded_from w h =
        let r = rounds_append U c (suc h.4.0) 0 h.0 h.1 (early_from h.0 h.3) (rw zero-add (late_from (suc h.4.0) h.1 h.4.1)) in
        (c + suc h.4.0, omega arith, rw h.2 r)

    pub Describes-unbounded : (k : ℕ) (s : Sets) → Describes (Joins (Rounds C c 0) (Plus (C c))) b k s → Describes (IsWord (repeat t n None) b) b k s
    Describes-unbounded k s d =
        Describes-as (Joins (Rounds C c 0) (Plus (C c))) (IsWord (repeat t n None) b) b k s
        (λ p. ((λ h. (h.0, unbounded_from _ h.1)), (λ h. elim (unbounded_to _ h.1) [ inl e ↦ cc | inr g ↦ (h.0, g) ])))
        (λ p. ((λ h. (h.0, unbounded_from _ h.1)), (λ h. elim (unbounded_to _ h.1) [ inl e ↦ absurd (no_end p h.0 e) | inr g ↦ (h.0, g) ])))
        (λ p q. ((λ h. (h.0, h.1, unbounded_from _ h.2)), (λ h. elim (unbounded_to _ h.2) [ inl e ↦ absurd (no_pass p h.0 (q ∷ h.1) e) | inr g ↦ (h.0, h.1, g) ])))
        (λ p. ((λ h. (h.0, h.1, unbounded_from _ h.2)), (λ h. elim (unbounded_to _ h.2) [ inl e ↦ absurd (no_pass p h.0 h.1 e) | inr g ↦ (h.0, h.1, g) ]))) d
      where
        no_pass : (p : ℕ) (w v : List ℕ) → w ++ p ∷ v ≡ [] → ⊥
        no_pass p [] v e = cc
        no_pass p (x ∷ w) v e = cc
