-- The words of an expression, read as the symbols of their positions, are its words over symbols.
use Rattle.std.proofs.Common.{◌≡◌, ℕ, zero, suc, ◌+◌, ◌-◌, ◌*◌, ◌<◌, ◌≤◌, min, ◌↔◌, List, [], ◌∷◌, ◌++◌, Option, map, length, get_or, slice_index, sym, refl, ap, ◌∙◌, inl, inr, arith, zero-add, suc-mul, zero-mul}
use Rattle.std.proofs.lemmas.List.{map-append, get_or_append_left, get_or-append_right}
use Rattle.xs_positions.specs.Tree.{Tree, one, empty, chain, nothing, either, repeat, copies, size, symbols, times}
use Rattle.xs_positions.specs.PositionWords.{IsWord, Allows, Rounds, place, Spells}
use Rattle.xs_positions.proofs.Walking.{length-symbols}
use Rattle.xs_positions.proofs.Worded.{some_copy}

-- the positions from a base on have the symbols of the expression
abbrev Labels : (ℕ → ℕ) → Tree → ℕ → Type 0
Labels f t b = (i : ℕ) → i < size t → f (b + i) ≡ get_or (symbols t) i 0

module _ (f : ℕ → ℕ) (s t : Tree) (b : ℕ) (l : (i : ℕ) → i < size s + size t → f (b + i) ≡ get_or (symbols s ++ symbols t) i 0) where
  labels_left : Labels f s b
  labels_left i h =
      let c : i < length (symbols s) = (let e = length-symbols s in omega arith) in
      l i (omega arith) ∙ get_or_append_left (symbols s) (symbols t) 0 i c

  labels_right : Labels f t (b + size s)
  labels_right i h =
      let e : (b + size s) + i ≡ b + (size s + i) = omega arith in
      let g : (size s + i) - size s ≡ i = omega arith in
      ap f e ∙ (l (size s + i) (omega arith) ∙ (get_or-append_right (symbols s) (symbols t) (size s) (size s + i) 0 (length-symbols s) (omega arith) ∙ ap (λ k. get_or (symbols t) k 0) g))

get_or-times : (xs : List ℕ) (c j i : ℕ) → j < c → i < length xs → get_or (times c xs) (j * length xs + i) 0 ≡ get_or xs i 0
get_or-times xs zero j i l h = absurd (omega arith)
get_or-times xs (suc c) zero i l h =
    let e : 0 * length xs + i ≡ i = (let z = zero-mul (length xs) in omega arith) in
    ap (λ k. get_or (xs ++ times c xs) k 0) e ∙ get_or_append_left xs (times c xs) 0 i h
get_or-times xs (suc c) (suc j) i l h =
    let m : suc j * length xs ≡ j * length xs + length xs = suc-mul j (length xs) in
    let e : (suc j * length xs + i) - length xs ≡ j * length xs + i = omega arith in
    get_or-append_right xs (times c xs) (length xs) (suc j * length xs + i) 0 refl (omega arith) ∙
    (ap (λ k. get_or (times c xs) k 0) e ∙ get_or-times xs c j i (omega arith) h)

copy_fits : (j c s i : ℕ) → j < c → i < s → j * s + i < c * s
copy_fits zero (suc c) s i l h = let m : suc c * s ≡ c * s + s = suc-mul c s in let z = zero-mul s in omega arith
copy_fits (suc j) (suc c) s i l h =
    let r = copy_fits j c s i (omega arith) h in
    let m : suc c * s ≡ c * s + s = suc-mul c s in let k : suc j * s ≡ j * s + s = suc-mul j s in omega arith
copy_fits j zero s i l h = absurd (omega arith)

labels_copy : (f : ℕ → ℕ) (t : Tree) (n : ℕ) (m : Option ℕ) (b j : ℕ) → 1 ≤ copies n m → Labels f (repeat t n m) b → Labels f t (place b (copies n m) (size t) j)
labels_copy f t n m b j some l i h =
    let k : ℕ = min j (copies n m - 1) in
    let below : k < copies n m = omega arith in
    let e : (b + k * size t) + i ≡ b + (k * size t + i) = omega arith in
    let long : length (symbols t) ≡ size t = length-symbols t in
    let r : get_or (times (copies n m) (symbols t)) (k * size t + i) 0 ≡ get_or (symbols t) i 0 =
    ap (λ s. get_or (times (copies n m) (symbols t)) (k * s + i) 0) (sym long) ∙ get_or-times (symbols t) (copies n m) k i below (let q = long in omega arith) in
    ap f e ∙ (l (k * size t + i) (copy_fits k (copies n m) (size t) i below h) ∙ r)

module _ (f : ℕ → ℕ) (V U : ℕ → List ℕ → Type 0) where
  rounds_to : ((j : ℕ) (u : List ℕ) → V j u → U j (map f u)) → (k j : ℕ) (w : List ℕ) → Rounds V k j w → Rounds U k j (map f w)
  rounds_to g zero j w r = let e : w ≡ [] = r in ap (map f) e
  rounds_to g (suc k) j w r =
      (map f r.0, map f r.1, ap (map f) r.2 ∙ map-append f r.0 r.1, g j r.0 r.3, rounds_to g k (suc j) r.1 r.4)

  rounds_from : ((j : ℕ) (s : List ℕ) → U j s → (u : List ℕ) × V j u × (map f u ≡ s)) → (k j : ℕ) (s : List ℕ) → Rounds U k j s →
      (w : List ℕ) × Rounds V k j w × (map f w ≡ s)
  rounds_from g zero j s r = ([], refl, sym r)
  rounds_from g (suc k) j s r =
      let a = g j r.0 r.3 in
      let c = rounds_from g k (suc j) r.1 r.4 in
      (a.0 ++ c.0, (a.0, c.0, refl, a.1, c.1), map-append f a.0 c.0 ∙ both a.2 c.2 ∙ sym r.2)
    where
      both : {x y z w : List ℕ} → x ≡ z → y ≡ w → x ++ y ≡ z ++ w
      both e d = λ i. e i ++ d i

spells_rounds : (f : ℕ → ℕ) (t : Tree) (n : ℕ) (m : Option ℕ) (b : ℕ) → Labels f (repeat t n m) b → ((c : ℕ) → Labels f t c → (w : List ℕ) → IsWord t c w → Spells t (map f w)) →
    (k : ℕ) → Allows n m k → (w : List ℕ) → Rounds (λ j u. IsWord t (place b (copies n m) (size t) j) u) k 0 w → Spells (repeat t n m) (map f w)
spells_rounds f t n m b l part zero a w r = let e : w ≡ [] = r in (zero, a, ap (map f) e)
spells_rounds f t n m b l part (suc k) a w r = (
  suc k,
  a,
  rounds_to f (λ j u. IsWord t (place b (copies n m) (size t) j) u) (λ _ u. Spells t u)
      (λ j u h. part (place b (copies n m) (size t) j) (labels_copy f t n m b j (some_copy n m k a) l) u h) (suc k) 0 w r,
)

pub spells : (f : ℕ → ℕ) (t : Tree) (b : ℕ) → Labels f t b → (w : List ℕ) → IsWord t b w → Spells t (map f w)
spells f (one s) b l w h = (s, ap (map f) h ∙ ap (λ x. x ∷ []) (let e : b + 0 ≡ b = omega arith in rw e at (l 0 (omega arith))), refl)
spells f empty b l w h = ap (map f) h
spells f (chain s t) b l w h =
    (map f h.0, map f h.1, ap (map f) h.2 ∙ map-append f h.0 h.1, spells f s b (labels_left f s t b l) h.0 h.3, spells f t (b + size s) (labels_right f s t b l) h.1 h.4)
spells f nothing b l w h = absurd h
spells f (either s t) b l w (inl h) = inl (spells f s b (labels_left f s t b l) w h)
spells f (either s t) b l w (inr h) = inr (spells f t (b + size s) (labels_right f s t b l) w h)
spells f (repeat t n m) b l w h = spells_rounds f t n m b l (λ c k v g. spells f t c k v g) h.0 h.1 w h.2

spelled_rounds : (f : ℕ → ℕ) (t : Tree) (n : ℕ) (m : Option ℕ) (b : ℕ) → Labels f (repeat t n m) b →
    ((c : ℕ) → Labels f t c → (s : List ℕ) → Spells t s → (w : List ℕ) × IsWord t c w × (map f w ≡ s)) →
    (k : ℕ) → Allows n m k → (s : List ℕ) → Rounds (λ _ u. Spells t u) k 0 s → (w : List ℕ) × IsWord (repeat t n m) b w × (map f w ≡ s)
spelled_rounds f t n m b l part zero a s r = ([], (zero, a, refl), sym r)
spelled_rounds f t n m b l part (suc k) a s r =
    let g = rounds_from f (λ j u. IsWord t (place b (copies n m) (size t) j) u) (λ _ u. Spells t u)
    (λ j u h. part (place b (copies n m) (size t) j) (labels_copy f t n m b j (some_copy n m k a) l) u h) (suc k) 0 s r in
    (g.0, (suc k, a, g.1), g.2)

pub spelled : (f : ℕ → ℕ) (t : Tree) (b : ℕ) → Labels f t b → (s : List ℕ) → Spells t s → (w : List ℕ) × IsWord t b w × (map f w ≡ s)
spelled f (one s) b l text h = (b ∷ [], refl, ap (λ x. x ∷ []) (let e : b + 0 ≡ b = omega arith in rw e at (l 0 (omega arith))) ∙ sym (h.1 ∙ ap (λ x. x ∷ []) h.2))
spelled f empty b l text h = ([], refl, sym h)
spelled f (chain s t) b l text h =
    let u = spelled f s b (labels_left f s t b l) h.0 h.3 in
    let v = spelled f t (b + size s) (labels_right f s t b l) h.1 h.4 in
    (u.0 ++ v.0, (u.0, v.0, refl, u.1, v.1), map-append f u.0 v.0 ∙ ((λ i. u.2 i ++ v.2 i) ∙ sym h.2))
spelled f nothing b l text h = absurd h
spelled f (either s t) b l text (inl h) = let u = spelled f s b (labels_left f s t b l) text h in (u.0, inl u.1, u.2)
spelled f (either s t) b l text (inr h) = let u = spelled f t (b + size s) (labels_right f s t b l) text h in (u.0, inr u.1, u.2)
spelled f (repeat t n m) b l text h = spelled_rounds f t n m b l (λ c k v g. spelled f t c k v g) h.0 h.1 text h.2

pub spelling_is : (t : Tree) (listed : List ℕ) → listed ≡ symbols t → (s : List ℕ) →
    Spells t s ↔ ((w : List ℕ) × IsWord t 0 w × (map (λ p. slice_index listed p) w ≡ s))
spelling_is t listed e s =
    let labels : (i : ℕ) → i < size t → slice_index listed (0 + i) ≡ get_or (symbols t) i 0 = (λ i h. rw (zero-add, e) refl) in (
      (λ h. spelled (λ p. slice_index listed p) t 0 labels s h),
      (λ h. rw h.2 at (spells (λ p. slice_index listed p) t 0 labels h.0 h.1)),
    )
