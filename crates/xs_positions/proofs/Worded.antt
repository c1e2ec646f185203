-- The words of an expression: whether there are any, and the empty one, where their positions lie, and a part more at the end.
use Rattle.std.proofs.Common.{◌≡◌, ℕ, zero, suc, ◌+◌, ◌-◌, ◌*◌, ◌<◌, ◌≤◌, min, ◌⊎◌, ◌↔◌, ◌&&◌, ◌||◌, ◌==◌, IsTrue, List, [], ◌∷◌, ◌++◌, Option, Some, None, sym, refl, ap, ◌∙◌, inl, inr, arith, append-nil, append_assoc, leb-true, le-leb, eqb-true, eq-eqb, mul-le-mul_right, suc-mul}
use Rattle.std.proofs.lemmas.Bool.{false≢true, and_parts, and_from, or_cases, or_left, or_right}
use Rattle.xs_positions.specs.Tree.{Tree, one, empty, chain, nothing, either, repeat, copies, size, sequence_of, choice_of}
use Rattle.xs_positions.specs.PositionWords.{IsWord, Allows, Rounds, place, Passes, HasWord}
use Rattle.xs_positions.specs.Measures.{has_rounds, has_empty, has_word}
use Rattle.xs_positions.proofs.Languages.{Joins, empty_join, passes_join}
use Rattle.xs_positions.proofs.Rounds.{some_rounds, empty_rounds}

-- ---- how many rounds
pub allows_rounds : (n : ℕ) (m : Option ℕ) (k : ℕ) → Allows n m k → IsTrue (has_rounds n m)
allows_rounds n None k h = refl
allows_rounds n (Some m) k h = le-leb n m (let a : n ≤ k = h.0 in let b : k ≤ m = h.1 in omega arith)

pub allows_least : (n : ℕ) (m : Option ℕ) (k : ℕ) → Allows n m k → n ≤ k
allows_least n None k h = h
allows_least n (Some m) k h = h.0

pub least_allowed : (n : ℕ) (m : Option ℕ) → IsTrue (has_rounds n m) → Allows n m n
least_allowed n None h = omega arith
least_allowed n (Some m) h = (omega arith, leb-true n m h)

-- where there is a round there is a copy
pub some_copy : (n : ℕ) (m : Option ℕ) (k : ℕ) → Allows n m (suc k) → 1 ≤ copies n m
some_copy n None k h = omega arith
some_copy n (Some m) k h = let b : suc k ≤ m = h.1 in omega arith

zero_is : (n : ℕ) → n ≤ 0 → IsTrue (n == 0)
zero_is n l = eq-eqb n 0 (omega arith)

-- the words of a part in each round of a repeat
abbrev RoundOf : Tree → ℕ → Option ℕ → ℕ → ℕ → List ℕ → Type 0
RoundOf x n m b j u = IsWord x (place b (copies n m) (size x) j) u

module _ (x : Tree) (n : ℕ) (m : Option ℕ) (b : ℕ) where
  module _ (part : (c : ℕ) → IsTrue (has_empty x) ↔ IsWord x c []) where
    empty_to : IsTrue (has_rounds n m && (n == 0 || has_empty x)) → IsWord (repeat x n m) b []
    empty_to h =
        let p = and_parts (has_rounds n m) (n == 0 || has_empty x) h in
        elim (or_cases (n == 0) (has_empty x) p.1) [
          | inl g ↦ (n, least_allowed n m p.0, (let e : n ≡ 0 = eqb-true n 0 g in rw e refl))
          | inr g ↦ (n, least_allowed n m p.0, empty_rounds (RoundOf x n m b) (λ j. (part (place b (copies n m) (size x) j)).0 g) n 0)
        ]

    empty_from : (k : ℕ) → Allows n m k → Rounds (RoundOf x n m b) k 0 [] → IsTrue (has_rounds n m && (n == 0 || has_empty x))
    empty_from zero a r = and_from (has_rounds n m) (n == 0 || has_empty x) (allows_rounds n m 0 a) (or_left (n == 0) (has_empty x) (zero_is n (allows_least n m 0 a)))
    empty_from (suc k) a r =
        let e = empty_join (RoundOf x n m b 0) (Rounds (RoundOf x n m b) k 1) r in
        and_from (has_rounds n m) (n == 0 || has_empty x) (allows_rounds n m (suc k) a) (or_right (n == 0) (has_empty x) ((part (place b (copies n m) (size x) 0)).1 e.0))

    empty_rounds_are : IsTrue (has_rounds n m && (n == 0 || has_empty x)) ↔ IsWord (repeat x n m) b []
    empty_rounds_are = (empty_to, λ h. empty_from h.0 h.1 h.2)

  module _ (part : (c : ℕ) → IsTrue (has_word x) ↔ HasWord (IsWord x c)) where
    word_to : IsTrue (has_rounds n m && (n == 0 || has_word x)) → HasWord (IsWord (repeat x n m) b)
    word_to h =
        let p = and_parts (has_rounds n m) (n == 0 || has_word x) h in
        elim (or_cases (n == 0) (has_word x) p.1) [
          | inl g ↦ ([], (n, least_allowed n m p.0, (let e : n ≡ 0 = eqb-true n 0 g in rw e refl)))
          | inr g ↦
              let r = some_rounds (RoundOf x n m b) (λ j. (part (place b (copies n m) (size x) j)).0 g) n 0 in
              (r.0, (n, least_allowed n m p.0, r.1))
        ]

    word_from : (k : ℕ) (w : List ℕ) → Allows n m k → Rounds (RoundOf x n m b) k 0 w → IsTrue (has_rounds n m && (n == 0 || has_word x))
    word_from zero w a r = and_from (has_rounds n m) (n == 0 || has_word x) (allows_rounds n m 0 a) (or_left (n == 0) (has_word x) (zero_is n (allows_least n m 0 a)))
    word_from (suc k) w a r =
        and_from (has_rounds n m) (n == 0 || has_word x) (allows_rounds n m (suc k) a) (or_right (n == 0) (has_word x) ((part (place b (copies n m) (size x) 0)).1 (r.0, r.3)))

    word_rounds_are : IsTrue (has_rounds n m && (n == 0 || has_word x)) ↔ HasWord (IsWord (repeat x n m) b)
    word_rounds_are = (word_to, λ h. word_from h.1.0 h.0 h.1.1 h.1.2)

-- ---- the empty word
pub empty_is : (t : Tree) (b : ℕ) → IsTrue (has_empty t) ↔ IsWord t b []
empty_is (one s) b = ((λ h. absurd (false≢true h)), (λ h. cc))
empty_is empty b = ((λ h. refl), (λ h. refl))
empty_is (chain x y) b = (
  (λ h. let p = and_parts (has_empty x) (has_empty y) h in ([], [], refl, (empty_is x b).0 p.0, (empty_is y (b + size x)).0 p.1)),
  (λ h. let p = empty_join (IsWord x b) (IsWord y (b + size x)) h in and_from (has_empty x) (has_empty y) ((empty_is x b).1 p.0) ((empty_is y (b + size x)).1 p.1)),
)
empty_is nothing b = ((λ h. absurd (false≢true h)), (λ h. absurd h))
empty_is (either x y) b = (
  (λ h. elim (or_cases (has_empty x) (has_empty y) h) [ inl g ↦ inl ((empty_is x b).0 g) | inr g ↦ inr ((empty_is y (b + size x)).0 g) ]),
  elim [ inl g ↦ or_left (has_empty x) (has_empty y) ((empty_is x b).1 g) | inr g ↦ or_right (has_empty x) (has_empty y) ((empty_is y (b + size x)).1 g) ],
)
empty_is (repeat x n m) b = empty_rounds_are x n m b (λ c. empty_is x c)

-- ---- any word
pub word_is : (t : Tree) (b : ℕ) → IsTrue (has_word t) ↔ HasWord (IsWord t b)
word_is (one s) b = ((λ h. (b ∷ [], refl)), (λ h. refl))
word_is empty b = ((λ h. ([], refl)), (λ h. refl))
word_is (chain x y) b = (
  (λ h. let p = and_parts (has_word x) (has_word y) h in let u = (word_is x b).0 p.0 in let v = (word_is y (b + size x)).0 p.1 in (u.0 ++ v.0, (u.0, v.0, refl, u.1, v.1))),
  (λ h. and_from (has_word x) (has_word y) ((word_is x b).1 (h.1.0, h.1.3)) ((word_is y (b + size x)).1 (h.1.1, h.1.4))),
)
word_is nothing b = ((λ h. absurd (false≢true h)), (λ h. absurd h.1))
word_is (either x y) b = (
  (λ h. elim (or_cases (has_word x) (has_word y) h) [ inl g ↦ (let u = (word_is x b).0 g in (u.0, inl u.1)) | inr g ↦ (let u = (word_is y (b + size x)).0 g in (u.0, inr u.1)) ]),
  (λ h. elim h.1 [ inl g ↦ or_left (has_word x) (has_word y) ((word_is x b).1 (h.0, g)) | inr g ↦ or_right (has_word x) (has_word y) ((word_is y (b + size x)).1 (h.0, g)) ]),
)
word_is (repeat x n m) b = word_rounds_are x n m b (λ c. word_is x c)

-- ---- where the positions lie
no_pass : (p : ℕ) (w v : List ℕ) → w ++ p ∷ v ≡ [] → ⊥
no_pass p [] v e = cc
no_pass p (x ∷ w) v e = cc

only_pass : (p b : ℕ) (w v : List ℕ) → w ++ p ∷ v ≡ b ∷ [] → p ≡ b
only_pass p b [] v e = cc
only_pass p b (x ∷ []) v e = cc
only_pass p b (x ∷ y ∷ w) v e = cc

-- a position of some rounds is one of some round's word
pub passes_at : (W : ℕ → List ℕ → Type 0) (p k j : ℕ) → Passes (Rounds W k j) p → (i : ℕ) × (j ≤ i) × (i < j + k) × Passes (W i) p
passes_at W p zero j h = absurd (no_pass p h.0 h.1 h.2)
passes_at W p (suc k) j h =
    elim (passes_join (W j) (Rounds W k (suc j)) p h) [
      | inl g ↦ (j, omega arith, omega arith, g.0)
      | inr g ↦ (let r = passes_at W p k (suc j) g.1 in (r.0, omega arith, omega arith, r.3))
    ]

copy_inside : (i c s : ℕ) → i < c → i * s + s ≤ c * s
copy_inside i c s l = let a : suc i * s ≤ c * s = mul-le-mul_right s l in let b : suc i * s ≡ i * s + s = suc-mul i s in omega arith

rounds_within : (x : Tree) (n : ℕ) (m : Option ℕ) (b p : ℕ) → ((c : ℕ) → Passes (IsWord x c) p → (c ≤ p) × (p < c + size x)) →
    (k : ℕ) → Allows n m k → Passes (Rounds (RoundOf x n m b) k 0) p → (b ≤ p) × (p < b + copies n m * size x)
rounds_within x n m b p part zero a g = absurd (no_pass p g.0 g.1 g.2)
rounds_within x n m b p part (suc k) a g =
    let r = passes_at (RoundOf x n m b) p (suc k) 0 g in
    let w = part (place b (copies n m) (size x) r.0) r.3 in
    let c : 1 ≤ copies n m = some_copy n m k a in
    let f = copy_inside (min r.0 (copies n m - 1)) (copies n m) (size x) (omega arith) in
    (omega arith, omega arith)

pub words_within : (t : Tree) (b p : ℕ) → Passes (IsWord t b) p → (b ≤ p) × (p < b + size t)
words_within (one s) b p h = let e : p ≡ b = only_pass p b h.0 h.1 h.2 in (omega arith, omega arith)
words_within empty b p h = absurd (no_pass p h.0 h.1 h.2)
words_within (chain x y) b p h =
    elim (passes_join (IsWord x b) (IsWord y (b + size x)) p h) [
      | inl g ↦ (let w = words_within x b p g.0 in (omega arith, omega arith))
      | inr g ↦ (let w = words_within y (b + size x) p g.1 in (omega arith, omega arith))
    ]
words_within nothing b p h = absurd h.2
words_within (either x y) b p h =
    elim h.2 [
      | inl g ↦ (let w = words_within x b p (h.0, h.1, g) in (omega arith, omega arith))
      | inr g ↦ (let w = words_within y (b + size x) p (h.0, h.1, g) in (omega arith, omega arith))
    ]
words_within (repeat x n m) b p h = rounds_within x n m b p (λ c g. words_within x c p g) h.2.0 h.2.1 (h.0, h.1, h.2.2)

-- ---- a part more
module _ (s t last : Tree) (b z : ℕ) (w : List ℕ) (more : Tree) (rest : (v : List ℕ) → Joins (IsWord t (b + size s)) (IsWord last z) v → IsWord more (b + size s) v) where
  longer : (f g u v : List ℕ) → w ≡ f ++ g → g ≡ u ++ v → IsWord s b f → IsWord t (b + size s) u → IsWord last z v →
      Joins (IsWord (chain s t) b) (IsWord last z) w
  longer f g u v e d hf hu hv = (f ++ u, v, (rw (e, d) (simp append_assoc)), (f, u, refl, hf, hu), hv)

  shorter : (f u x v : List ℕ) → w ≡ x ++ v → x ≡ f ++ u → IsWord s b f → IsWord t (b + size s) u → IsWord last z v → IsWord (chain s more) b w
  shorter f u x v e d hf hu hv = (f, u ++ v, (rw (e, d) (simp append_assoc)), hf, rest (u ++ v) (u, v, refl, hu, hv))

pub sequence_words : (ts : List Tree) (t : Tree) (b : ℕ) (w : List ℕ) →
    IsWord (sequence_of (ts ++ t ∷ [])) b w ↔ Joins (IsWord (sequence_of ts) b) (IsWord t (b + size (sequence_of ts))) w
sequence_words [] t b w = (λ h. only_to h.0 h.1 h.2 h.3 h.4, λ h. only_from h.0 h.1 h.2 h.3 h.4)
  where
    z : b + 0 ≡ b
    z = omega arith

    only_to : (f g : List ℕ) → w ≡ f ++ g → IsWord t b f → g ≡ [] → Joins (IsWord empty b) (IsWord t (b + 0)) w
    only_to f g e h d = ([], w, refl, refl, (let k : w ≡ f = e ∙ (ap (λ v. f ++ v) d ∙ append-nil f) in rw (z, k) h))

    only_from : (f g : List ℕ) → w ≡ f ++ g → f ≡ [] → IsWord t (b + 0) g → IsWord (chain t empty) b w
    only_from f g e d h = (w, [], sym (append-nil w), (let k : w ≡ g = e ∙ ap (λ v. v ++ g) d in rw k (rw z at h)), refl)
sequence_words (s ∷ ts) t b w =
    let z : (b + size s) + size (sequence_of ts) ≡ b + (size s + size (sequence_of ts)) = omega arith in
    let rest : (v : List ℕ) → Joins (IsWord (sequence_of ts) (b + size s)) (IsWord t ((b + size s) + size (sequence_of ts))) v → IsWord (sequence_of (ts ++ t ∷ [])) (b + size s) v =
    λ v g. (sequence_words ts t (b + size s) v).1 g in
    rw (← z) (
      (λ h. let i = (sequence_words ts t (b + size s) h.1).0 h.4 in
          longer s (sequence_of ts) t b ((b + size s) + size (sequence_of ts)) w (sequence_of (ts ++ t ∷ [])) rest h.0 h.1 i.0 i.1 h.2 i.2 h.3 i.3 i.4),
      (λ h. shorter s (sequence_of ts) t b ((b + size s) + size (sequence_of ts)) w (sequence_of (ts ++ t ∷ [])) rest h.3.0 h.3.1 h.0 h.1 h.2 h.3.2 h.3.3 h.3.4 h.4),
    )

-- the same of some parts and those after them
pub append_words : (ts us : List Tree) (b : ℕ) (w : List ℕ) →
    IsWord (sequence_of (ts ++ us)) b w ↔ Joins (IsWord (sequence_of ts) b) (IsWord (sequence_of us) (b + size (sequence_of ts))) w
append_words [] us b w = (λ h. none_to h, λ h. none_from h.0 h.1 h.2 h.3 h.4)
  where
    z : b + 0 ≡ b
    z = omega arith

    none_to : IsWord (sequence_of us) b w → Joins (IsWord empty b) (IsWord (sequence_of us) (b + 0)) w
    none_to h = ([], w, refl, refl, rw z h)

    none_from : (f g : List ℕ) → w ≡ f ++ g → f ≡ [] → IsWord (sequence_of us) (b + 0) g → IsWord (sequence_of us) b w
    none_from f g e d h = let k : w ≡ g = e ∙ ap (λ v. v ++ g) d in rw k (rw z at h)
append_words (s ∷ ts) us b w =
    let z : (b + size s) + size (sequence_of ts) ≡ b + (size s + size (sequence_of ts)) = omega arith in
    let rest : (v : List ℕ) → Joins (IsWord (sequence_of ts) (b + size s)) (IsWord (sequence_of us) ((b + size s) + size (sequence_of ts))) v → IsWord (sequence_of (ts ++ us)) (b + size s) v =
    λ v g. (append_words ts us (b + size s) v).1 g in
    rw (← z) (
      (λ h. let i = (append_words ts us (b + size s) h.1).0 h.4 in
          longer s (sequence_of ts) (sequence_of us) b ((b + size s) + size (sequence_of ts)) w (sequence_of (ts ++ us)) rest h.0 h.1 i.0 i.1 h.2 i.2 h.3 i.3 i.4),
      (λ h. shorter s (sequence_of ts) (sequence_of us) b ((b + size s) + size (sequence_of ts)) w (sequence_of (ts ++ us)) rest h.3.0 h.3.1 h.0 h.1 h.2 h.3.2 h.3.3 h.3.4 h.4),
    )

pub choice_words : (ts : List Tree) (t : Tree) (b : ℕ) (w : List ℕ) →
    IsWord (choice_of (ts ++ t ∷ [])) b w ↔ (IsWord (choice_of ts) b w ⊎ IsWord t (b + size (choice_of ts)) w)
choice_words [] t b w =
    let z : b + 0 ≡ b = omega arith in
    (elim [ inl h ↦ inr (rw z h) | inr h ↦ absurd h ], elim [ inl h ↦ absurd h | inr h ↦ inl (rw z at h) ])
choice_words (s ∷ ts) t b w =
    let z : (b + size s) + size (choice_of ts) ≡ b + (size s + size (choice_of ts)) = omega arith in
    let i = choice_words ts t (b + size s) w in (
      elim [ inl h ↦ inl (inl h) | inr h ↦ elim (i.0 h) [ inl g ↦ inl (inr g) | inr g ↦ inr (rw z at g) ] ],
      elim [ inl (inl h) ↦ inl h | inl (inr h) ↦ inr (i.1 (inl h)) | inr h ↦ inr (i.1 (inr (rw (← z) at h))) ],
    )
