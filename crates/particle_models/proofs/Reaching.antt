-- Where prefixes of words may end: name by name, from the positions that begin a word and those that follow each other.
use Rattle.std.proofs.Common.{◌≡◌, ◌≢◌, ℕ, ◌⊎◌, ◌↔◌, List, [], ◌∷◌, ◌++◌, refl, sym, ap, subst, inl, inr, append_assoc, append-nil}
use Rattle.xs_positions.specs.PositionWords.{Begins, Ends, Follows, Exchanges}
use Rattle.particle_models.specs.Reach.{Reads, Reach}

-- a list is empty or has a last element
pub last_of : (xs : List ℕ) → (xs ≡ []) ⊎ ((front : List ℕ) × (p : ℕ) × (xs ≡ front ++ p ∷ []))
last_of [] = inl refl
last_of (x ∷ xs) = elim (last_of xs) [
  | inl e ↦ inr ([], x, ap (λ z. x ∷ z) e)
  | inr h ↦ inr (x ∷ h.0, h.1, ap (λ z. x ∷ z) h.2)
]

module _ {Name : Type 0} (Takes : List Name → ℕ → Name → Type 0) where
  pub reads_push : (before : List Name) (f : List ℕ) (names : List Name) (p : ℕ) (n : Name) → Reads Takes before f names → Takes (before ++ names) p n →
      Reads Takes before (f ++ p ∷ []) (names ++ n ∷ [])
  reads_push before [] [] p n r t = (rw append-nil at t, tt)
  reads_push before [] (x ∷ names) p n r t = absurd r
  reads_push before (q ∷ f) [] p n r t = absurd r
  reads_push before (q ∷ f) (x ∷ names) p n r t =
      (r.0, reads_push (before ++ x ∷ []) f names p n r.1 (subst (λ (z : List Name). Takes z p n) (sym (append_assoc before (x ∷ []) names)) t))

  pub reads_last : (before : List Name) (f : List ℕ) (names : List Name) (p : ℕ) (n : Name) → Reads Takes before (f ++ p ∷ []) (names ++ n ∷ []) →
      Reads Takes before f names × Takes (before ++ names) p n
  reads_last before [] [] p n r = (tt, rw append-nil r.0)
  reads_last before [] (x ∷ []) p n r = absurd r.1
  reads_last before [] (x ∷ y ∷ names) p n r = absurd r.1
  reads_last before (q ∷ []) [] p n r = absurd r.1
  reads_last before (q ∷ q' ∷ f) [] p n r = absurd r.1
  reads_last before (q ∷ f) (x ∷ names) p n r =
      let h = reads_last (before ++ x ∷ []) f names p n r.1 in
      ((r.0, h.0), subst (λ (z : List Name). Takes z p n) (append_assoc before (x ∷ []) names) h.1)

  no_read : (before : List Name) (f : List ℕ) (p : ℕ) → Reads Takes before (f ++ p ∷ []) [] → ⊥
  no_read before [] p r = r
  no_read before (q ∷ f) p r = r

  module _ (Word : List ℕ → Type 0) where
    -- the first name
    pub reach_first : (q : ℕ) (n : Name) → Reach Takes Word (n ∷ []) q ↔ (Begins Word q × Takes [] q n)
    reach_first q n = ((λ h. first h.0 h.1 h.2 h.3), (λ h. ([], h.0.0, h.0.1, (h.1, tt))))
      where
        first : (front rest : List ℕ) → Word (front ++ q ∷ rest) → Reads Takes [] (front ++ q ∷ []) (n ∷ []) → Begins Word q × Takes [] q n
        first [] rest w r = ((rest, w), r.0)
        first (p ∷ front) rest w r = absurd (no_read (n ∷ []) front q r.1)

    module _ (exchange : Exchanges Word) where
      -- a name more
      pub reach_next : (names : List Name) (n : Name) (q : ℕ) → names ≢ [] →
          Reach Takes Word (names ++ n ∷ []) q ↔ ((p : ℕ) × Reach Takes Word names p × Follows Word p q × Takes names q n)
      reach_next names n q some = (
        (λ h. back h.0 h.1 h.2 (reads_last [] h.0 names q n h.3)),
        (λ h. (
          h.1.0 ++ h.0 ∷ [],
          h.2.1,
          rw append_assoc (exchange h.1.0 h.1.1 h.2.0 (q ∷ h.2.1) h.0 h.1.2 h.2.2),
          reads_push [] (h.1.0 ++ h.0 ∷ []) names q n h.1.3 h.3,
        )),
      )
        where
          back : (front rest : List ℕ) → Word (front ++ q ∷ rest) → Reads Takes [] front names × Takes names q n →
              (p : ℕ) × Reach Takes Word names p × Follows Word p q × Takes names q n
          back front rest w r = elim (last_of front) [
            | inl e ↦ absurd (some (none_read names (rw e at r.0)))
            | inr h ↦ (
                let v : Word (h.0 ++ h.1 ∷ q ∷ rest) = rw append_assoc at (rw h.2 at w) in
                (h.1, (h.0, q ∷ rest, v, rw h.2 at r.0), (h.0, rest, v), r.1))
          ]
            where
              none_read : (names : List Name) → Reads Takes [] [] names → names ≡ []
              none_read [] r = refl
              none_read (n ∷ names) r = absurd r

      -- a word of names
      pub reach_word : (names : List Name) → names ≢ [] →
          ((ps : List ℕ) × Word ps × Reads Takes [] ps names) ↔ ((p : ℕ) × Reach Takes Word names p × Ends Word p)
      reach_word names some = (
        (λ h. elim (last_of h.0) [
          | inl e ↦ absurd (some (empty_read names (rw e at h.2)))
          | inr l ↦ (l.1, (l.0, [], rw l.2 at h.1, rw l.2 at h.2), (l.0, rw l.2 at h.1))
        ]),
        (λ h. (h.1.0 ++ h.0 ∷ [], exchange h.1.0 h.1.1 h.2.0 [] h.0 h.1.2 h.2.1, h.1.3)),
      )
        where
          empty_read : (names : List Name) → Reads Takes [] [] names → names ≡ []
          empty_read [] r = refl
          empty_read (n ∷ names) r = absurd r

    -- names that begin a word
    pub reach_begins : (names : List Name) → names ≢ [] →
        ((front rest : List ℕ) × Word (front ++ rest) × Reads Takes [] front names) ↔ ((p : ℕ) × Reach Takes Word names p)
    reach_begins names some = (
      (λ h. elim (last_of h.0) [
        | inl e ↦ absurd (some (void_read names (rw e at h.3)))
        | inr l ↦ (l.1, (l.0, h.1, rw append_assoc at (rw l.2 at h.2), rw l.2 at h.3))
      ]),
      (λ h. (h.1.0 ++ h.0 ∷ [], h.1.1, rw append_assoc h.1.2, h.1.3)),
    )
      where
        void_read : (names : List Name) → Reads Takes [] [] names → names ≡ []
        void_read [] r = refl
        void_read (n ∷ names) r = absurd r
