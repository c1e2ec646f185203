-- Where the words of a language begin, end and go on, for a word of one language and then one of another.
use Rattle.std.proofs.Common.{◌≡◌, ℕ, ◌⊎◌, List, [], ◌∷◌, ◌++◌, sym, refl, inl, inr, append_assoc, append-nil}
use Rattle.xs_positions.specs.PositionWords.{Begins, Ends, Follows, Passes, HasWord}

-- a word of the one and then a word of the other
abbrev pub Joins : (List ℕ → Type 0) → (List ℕ → Type 0) → List ℕ → Type 0
Joins L M word = (front back : List ℕ) × (word ≡ front ++ back) × L front × M back

-- where two ways of writing a list in two parts meet
pub cut : (a b c d : List ℕ) → a ++ b ≡ c ++ d → ((m : List ℕ) × (a ≡ c ++ m) × (d ≡ m ++ b)) ⊎ ((m : List ℕ) × (c ≡ a ++ m) × (b ≡ m ++ d))
cut [] b c d e = inr (c, refl, e)
cut (x ∷ a) b [] d e = inl (x ∷ a, refl, sym e)
cut (x ∷ a) b (y ∷ c) d e =
    let same : a ++ b ≡ c ++ d = cc in
    let head : x ≡ y = cc in
    elim (cut a b c d same) [
      | inl h ↦ inl (h.0, (let f : a ≡ c ++ h.0 = h.1 in cc), h.2)
      | inr h ↦ inr (h.0, (let f : c ≡ a ++ h.0 = h.1 in cc), h.2)
    ]

module _ (L M : List ℕ → Type 0) where
  begins_cut : (p : ℕ) (w u v : List ℕ) → p ∷ w ≡ u ++ v → L u → M v → (Begins L p × HasWord M) ⊎ (L [] × Begins M p)
  begins_cut p w [] v e l m = inr (l, (w, rw (← e) at m))
  begins_cut p w (x ∷ u) v e l m = let h : x ≡ p = cc in inl ((u, rw h at l), (v, m))

  pub begins_join : (p : ℕ) → Begins (Joins L M) p → (Begins L p × HasWord M) ⊎ (L [] × Begins M p)
  begins_join p h = begins_cut p h.0 h.1.0 h.1.1 h.1.2 h.1.3 h.1.4

  pub join_begins : (p : ℕ) → (Begins L p × HasWord M) ⊎ (L [] × Begins M p) → Begins (Joins L M) p
  join_begins p (inl h) = (h.0.0 ++ h.1.0, (p ∷ h.0.0, h.1.0, refl, h.0.1, h.1.1))
  join_begins p (inr h) = (h.1.0, ([], p ∷ h.1.0, refl, h.0, h.1.1))

  ends_inside : (p : ℕ) (w m v : List ℕ) → p ∷ [] ≡ m ++ v → L (w ++ m) → M v → (Ends M p × HasWord L) ⊎ (M [] × Ends L p)
  ends_inside p w [] v e l r = inl (([], rw (← e) at r), (w ++ [], l))
  ends_inside p w (x ∷ []) v e l r = let h : x ≡ p = cc in let k : v ≡ [] = cc in inr (rw k at r, (w, rw h at l))
  ends_inside p w (x ∷ y ∷ m) v e l r = cc

  ends_cut : (p : ℕ) (w u v : List ℕ) → w ++ p ∷ [] ≡ u ++ v → L u → M v → (Ends M p × HasWord L) ⊎ (M [] × Ends L p)
  ends_cut p w u v e l r = elim (cut u v w (p ∷ []) (sym e)) [
    | inl h ↦ ends_inside p w h.0 v h.2 (rw h.1 at l) r
    | inr h ↦ inl ((h.0, rw h.2 at r), (u, l))
  ]

  pub ends_join : (p : ℕ) → Ends (Joins L M) p → (Ends M p × HasWord L) ⊎ (M [] × Ends L p)
  ends_join p h = ends_cut p h.0 h.1.0 h.1.1 h.1.2 h.1.3 h.1.4

  pub join_ends : (p : ℕ) → (Ends M p × HasWord L) ⊎ (M [] × Ends L p) → Ends (Joins L M) p
  join_ends p (inl h) = (h.1.0 ++ h.0.0, (h.1.0, h.0.0 ++ p ∷ [], (simp append_assoc), h.1.1, h.0.1))
  join_ends p (inr h) = (h.1.0, (h.1.0 ++ p ∷ [], [], sym (append-nil (h.1.0 ++ p ∷ [])), h.1.1, h.0))

  follows_inside : (p q : ℕ) (w m v b : List ℕ) → p ∷ q ∷ b ≡ m ++ v → L (w ++ m) → M v →
      (Follows L p q × HasWord M) ⊎ ((Ends L p × Begins M q) ⊎ (HasWord L × Follows M p q))
  follows_inside p q w [] v b e l r = inr (inr ((w ++ [], l), ([], b, rw (← e) at r)))
  follows_inside p q w (x ∷ []) v b e l r = let h : x ≡ p = cc in let k : v ≡ q ∷ b = cc in
      inr (inl ((w, rw h at l), (b, rw k at r)))
  follows_inside p q w (x ∷ y ∷ m) v b e l r = let h : x ≡ p = cc in let k : y ≡ q = cc in
      inl ((w, m, rw (h, k) at l), (v, r))

  follows_cut : (p q : ℕ) (w u v b : List ℕ) → w ++ p ∷ q ∷ b ≡ u ++ v → L u → M v →
      (Follows L p q × HasWord M) ⊎ ((Ends L p × Begins M q) ⊎ (HasWord L × Follows M p q))
  follows_cut p q w u v b e l r = elim (cut u v w (p ∷ q ∷ b) (sym e)) [
    | inl h ↦ follows_inside p q w h.0 v b h.2 (rw h.1 at l) r
    | inr h ↦ inr (inr ((u, l), (h.0, b, rw h.2 at r)))
  ]

  pub follows_join : (p q : ℕ) → Follows (Joins L M) p q →
      (Follows L p q × HasWord M) ⊎ ((Ends L p × Begins M q) ⊎ (HasWord L × Follows M p q))
  follows_join p q h = follows_cut p q h.0 h.2.0 h.2.1 h.1 h.2.2 h.2.3 h.2.4

  pub join_follows : (p q : ℕ) →
      (Follows L p q × HasWord M) ⊎ ((Ends L p × Begins M q) ⊎ (HasWord L × Follows M p q)) → Follows (Joins L M) p q
  join_follows p q (inl h) = (h.0.0, h.0.1 ++ h.1.0, (h.0.0 ++ p ∷ q ∷ h.0.1, h.1.0, (simp append_assoc), h.0.2, h.1.1))
  join_follows p q (inr (inl h)) = (h.0.0, h.1.0, (h.0.0 ++ p ∷ [], q ∷ h.1.0, (simp append_assoc), h.0.1, h.1.1))
  join_follows p q (inr (inr h)) = (h.0.0 ++ h.1.0, h.1.1, (h.0.0, h.1.0 ++ p ∷ q ∷ h.1.1, (simp append_assoc), h.0.1, h.1.2))

  passes_inside : (p : ℕ) (w m v b : List ℕ) → p ∷ b ≡ m ++ v → L (w ++ m) → M v → (Passes L p × HasWord M) ⊎ (HasWord L × Passes M p)
  passes_inside p w [] v b e l r = inr ((w ++ [], l), ([], b, rw (← e) at r))
  passes_inside p w (x ∷ m) v b e l r = let h : x ≡ p = cc in inl ((w, m, rw h at l), (v, r))

  passes_cut : (p : ℕ) (w u v b : List ℕ) → w ++ p ∷ b ≡ u ++ v → L u → M v → (Passes L p × HasWord M) ⊎ (HasWord L × Passes M p)
  passes_cut p w u v b e l r = elim (cut u v w (p ∷ b) (sym e)) [
    | inl h ↦ passes_inside p w h.0 v b h.2 (rw h.1 at l) r
    | inr h ↦ inr ((u, l), (h.0, b, rw h.2 at r))
  ]

  pub passes_join : (p : ℕ) → Passes (Joins L M) p → (Passes L p × HasWord M) ⊎ (HasWord L × Passes M p)
  passes_join p h = passes_cut p h.0 h.2.0 h.2.1 h.1 h.2.2 h.2.3 h.2.4

  pub join_passes : (p : ℕ) → (Passes L p × HasWord M) ⊎ (HasWord L × Passes M p) → Passes (Joins L M) p
  join_passes p (inl h) = (h.0.0, h.0.1 ++ h.1.0, (h.0.0 ++ p ∷ h.0.1, h.1.0, (simp append_assoc), h.0.2, h.1.1))
  join_passes p (inr h) = (h.0.0 ++ h.1.0, h.1.1, (h.0.0, h.1.0 ++ p ∷ h.1.1, (simp append_assoc), h.0.1, h.1.2))

  pub empty_join : Joins L M [] → L [] × M []
  empty_join h = empty_cut h.0 h.1 h.2 h.3 h.4
    where
      empty_cut : (u v : List ℕ) → [] ≡ u ++ v → L u → M v → L [] × M []
      empty_cut [] v e l m = (l, rw (← e) at m)
      empty_cut (x ∷ u) v e l m = cc
