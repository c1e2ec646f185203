-- Words in a row: how rounds split, how they go on, and what one part gives over and over.
use Rattle.std.proofs.Common.{◌≡◌, ℕ, zero, suc, ◌+◌, ◌-◌, ◌<◌, ◌≤◌, ◌⊎◌, ◌↔◌, List, [], ◌∷◌, ◌++◌, sym, refl, inl, inr, append_assoc, append-nil, arith, suc-add, zero-add, add-zero}
use Rattle.xs_positions.specs.PositionWords.{Begins, Ends, Follows, Passes, HasWord, Rounds}
use Rattle.xs_positions.proofs.Languages.{Joins, begins_join, ends_join, follows_join, passes_join, empty_join}

no_more : (w u v x y : List ℕ) → w ≡ u ++ v → v ≡ x ++ y → y ≡ [] → w ≡ u ++ x
no_more w u v x y e d f = rw (e, d, f, append-nil) refl

module _ (W : ℕ → List ℕ → Type 0) where
  split_more : (a b j : ℕ) (w u v f g : List ℕ) → w ≡ u ++ v → v ≡ f ++ g → W j u → Rounds W a (suc j) f → Rounds W b (suc j + a) g →
      Joins (Rounds W (suc a) j) (Rounds W b (j + suc a)) w
  split_more a b j w u v f g e d h r s =
      (u ++ f, g, (rw (e, d) (simp append_assoc)), (u, f, refl, h, r), (let i : suc j + a ≡ j + suc a = omega arith in rw i at s))

  -- the first rounds and then the others
  pub rounds_split : (a b j : ℕ) (w : List ℕ) → Rounds W (a + b) j w → Joins (Rounds W a j) (Rounds W b (j + a)) w
  rounds_split zero b j w h = let g : Rounds W b j w = rw zero-add at h in ([], w, refl, refl, rw add-zero g)
  rounds_split (suc a) b j w h =
      let g : Rounds W (suc (a + b)) j w = rw suc-add at h in
      let m = rounds_split a b (suc j) g.1 g.4 in
      split_more a b j w g.0 g.1 m.0 m.1 g.2 m.2 g.3 m.3 m.4

  pub rounds_append : (a b j : ℕ) (u v : List ℕ) → Rounds W a j u → Rounds W b (j + a) v → Rounds W (a + b) j (u ++ v)
  rounds_append zero b j u v h r = let e : u ≡ [] = h in rw (zero-add, e) (rw add-zero at r)
  rounds_append (suc a) b j u v h r =
      let e : j + suc a ≡ suc j + a = omega arith in
      rw suc-add (h.0, h.1 ++ v, (rw h.2 (simp append_assoc)), h.3, rounds_append a b (suc j) h.1 v h.4 (rw e at r))

  -- one more round at the end
  pub rounds_last : (k : ℕ) (w : List ℕ) → Rounds W (k + 1) 0 w → Joins (Rounds W k 0) (W k) w
  rounds_last k w h =
      let m = rounds_split k 1 0 w h in
      let r : W k m.4.0 = rw zero-add at m.4.3 in
      (m.0, m.4.0, no_more w m.0 m.1 m.4.0 m.4.1 m.2 m.4.2 m.4.4, m.3, r)

  pub last_round : (k : ℕ) (w : List ℕ) → Joins (Rounds W k 0) (W k) w → Rounds W (k + 1) 0 w
  last_round k w h =
      rw h.2 (rounds_append k 1 0 h.0 h.1 h.3 (h.1, [], sym (append-nil h.1), rw zero-add h.4, refl))

  pub some_rounds : ((j : ℕ) → HasWord (W j)) → (k j : ℕ) → HasWord (Rounds W k j)
  some_rounds some zero j = ([], refl)
  some_rounds some (suc k) j =
      let a = some j in
      let b = some_rounds some k (suc j) in
      (a.0 ++ b.0, (a.0, b.0, refl, a.1, b.1))

  -- fewer rounds are the beginning of more
  pub rounds_go_on : ((j : ℕ) → HasWord (W j)) → (k c : ℕ) (u : List ℕ) → k ≤ c → Rounds W k 0 u → (v : List ℕ) × Rounds W c 0 (u ++ v)
  rounds_go_on some k c u h r =
      let m = some_rounds some (c - k) k in
      let e : k + (c - k) ≡ c = omega arith in
      (m.0, rw e at (rounds_append k (c - k) 0 u m.0 r (rw zero-add m.1)))

  pub empty_rounds : ((j : ℕ) → W j []) → (k j : ℕ) → Rounds W k j []
  empty_rounds none zero j = refl
  empty_rounds none (suc k) j = ([], [], refl, none j, empty_rounds none k (suc j))

-- rounds whose words are those of other rounds
pub rounds_same : (W V : ℕ → List ℕ → Type 0) (low high : ℕ) → ((j : ℕ) → low ≤ j → j < high → (u : List ℕ) → W j u → V j u) →
    (k j : ℕ) (w : List ℕ) → low ≤ j → j + k ≤ high → Rounds W k j w → Rounds V k j w
rounds_same W V low high same zero j w l h r = r
rounds_same W V low high same (suc k) j w l h r =
    (r.0, r.1, r.2, same j l (omega arith) r.0 r.3, rounds_same W V low high same k (suc j) r.1 (omega arith) (omega arith) r.4)

-- one or more words of the language in a row
abbrev pub Plus : (List ℕ → Type 0) → List ℕ → Type 0
Plus N w = (k : ℕ) × Rounds (λ _. N) (suc k) 0 w

module _ (N : List ℕ → Type 0) where
  -- the number of the first round says nothing where each round is the same
  pub rounds_from : (k i j : ℕ) (w : List ℕ) → Rounds (λ _. N) k i w → Rounds (λ _. N) k j w
  rounds_from zero i j w r = r
  rounds_from (suc k) i j w r = (r.0, r.1, r.2, r.3, rounds_from k (suc i) (suc j) r.1 r.4)

  pub plus_one : (w : List ℕ) → N w → Plus N w
  plus_one w n = (zero, (w, [], sym (append-nil w), n, refl))

  plus_two : (u v : List ℕ) → N u → N v → Plus N (u ++ v)
  plus_two u v n m = (suc zero, (u, v, refl, n, (v, [], sym (append-nil v), m, refl)))

  pub begins_rounds : (p k j : ℕ) → Begins (Rounds (λ _. N) k j) p → Begins N p
  begins_rounds p zero j h = cc (h.1)
  begins_rounds p (suc k) j h =
      elim (begins_join N (Rounds (λ _. N) k (suc j)) p h) [ inl b ↦ b.0 | inr b ↦ begins_rounds p k (suc j) b.1 ]

  no_end : (p : ℕ) (w : List ℕ) → w ++ p ∷ [] ≡ [] → ⊥
  no_end p [] e = cc
  no_end p (x ∷ w) e = cc

  no_pass : (p : ℕ) (w v : List ℕ) → w ++ p ∷ v ≡ [] → ⊥
  no_pass p [] v e = cc
  no_pass p (x ∷ w) v e = cc

  pub ends_rounds : (p k j : ℕ) → Ends (Rounds (λ _. N) k j) p → Ends N p
  ends_rounds p zero j h = absurd (no_end p h.0 h.1)
  ends_rounds p (suc k) j h =
      elim (ends_join N (Rounds (λ _. N) k (suc j)) p h) [ inl b ↦ ends_rounds p k (suc j) b.0 | inr b ↦ b.1 ]

  pub passes_rounds : (p k j : ℕ) → Passes (Rounds (λ _. N) k j) p → Passes N p
  passes_rounds p zero j h = absurd (no_pass p h.0 h.1 h.2)
  passes_rounds p (suc k) j h =
      elim (passes_join N (Rounds (λ _. N) k (suc j)) p h) [ inl b ↦ b.0 | inr b ↦ passes_rounds p k (suc j) b.1 ]

  pub follows_rounds : (p q k j : ℕ) → Follows (Rounds (λ _. N) k j) p q → Follows N p q ⊎ (Ends N p × Begins N q)
  follows_rounds p q zero j h = absurd (no_pass p h.0 (q ∷ h.1) h.2)
  follows_rounds p q (suc k) j h =
      elim (follows_join N (Rounds (λ _. N) k (suc j)) p q h) [
        | inl b ↦ inl b.0
        | inr (inl b) ↦ inr (b.0, begins_rounds q k (suc j) b.1)
        | inr (inr b) ↦ follows_rounds p q k (suc j) b.1
      ]

  pub begins_plus : (p : ℕ) → Begins (Plus N) p ↔ Begins N p
  begins_plus p = ((λ h. begins_rounds p (suc h.1.0) 0 (h.0, h.1.1)), (λ h. (h.0, plus_one _ h.1)))

  pub ends_plus : (p : ℕ) → Ends (Plus N) p ↔ Ends N p
  ends_plus p = ((λ h. ends_rounds p (suc h.1.0) 0 (h.0, h.1.1)), (λ h. (h.0, plus_one _ h.1)))

  pub passes_plus : (p : ℕ) → Passes (Plus N) p ↔ Passes N p
  passes_plus p = ((λ h. passes_rounds p (suc h.2.0) 0 (h.0, h.1, h.2.1)), (λ h. (h.0, h.1, plus_one _ h.2)))

  follows_two : (p q : ℕ) → Ends N p × Begins N q → Follows (Plus N) p q
  follows_two p q h =
      let e : (h.0.0 ++ p ∷ []) ++ q ∷ h.1.0 ≡ h.0.0 ++ p ∷ q ∷ h.1.0 = simp append_assoc in
      (h.0.0, h.1.0, rw e at (plus_two (h.0.0 ++ p ∷ []) (q ∷ h.1.0) h.0.1 h.1.1))

  pub follows_plus : (p q : ℕ) → Follows (Plus N) p q ↔ (Follows N p q ⊎ (Ends N p × Begins N q))
  follows_plus p q = (
    (λ h. follows_rounds p q (suc h.2.0) 0 (h.0, h.1, h.2.1)),
    elim [ inl h ↦ (h.0, h.1, plus_one _ h.2) | inr h ↦ follows_two p q h ],
  )

  pub empty_plus : Plus N [] → N []
  empty_plus h = (empty_join N (Rounds (λ _. N) h.0 1) h.1).0
