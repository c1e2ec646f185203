-- A change of what is kept under one number moves a sum by what it changes.
use Rattle.std.proofs.Common.{◌≡◌, ℕ, zero, suc, ◌+◌, List, [], ◌∷◌, Option, None, refl, sym, ap, ◌∙◌, arith}
use Rattle.std.proofs.lemmas.List.Sums.{sum_by-cons}
use Rattle.kept_slots.specs.Slots.{at, Writes, Keeps, weigh, slot_sum}

module _ {T : Type 0} (weight : T → ℕ) where
  no-weight : (slots : List (Option T)) → ((m : ℕ) → at slots m ≡ None) → slot_sum weight slots ≡ 0
  no-weight [] none = refl
  no-weight (x ∷ xs) none =
      let a = sum_by-cons (weigh weight) x xs in
      let own : weigh weight x ≡ 0 = ap (weigh weight) (none 0) in
      let later = no-weight xs (λ m. none (suc m)) in
      omega (arith, a, own, later)

  pub kept-sum : (old new : List (Option T)) → Keeps old new → slot_sum weight new ≡ slot_sum weight old
  kept-sum [] new keeps = no-weight new keeps
  kept-sum (x ∷ xs) [] keeps = sym (no-weight (x ∷ xs) (λ m. sym (keeps m)))
  kept-sum (x ∷ xs) (y ∷ ys) keeps =
      let a = sum_by-cons (weigh weight) x xs in
      let b = sum_by-cons (weigh weight) y ys in
      let own : weigh weight y ≡ weigh weight x = ap (weigh weight) (keeps 0) in
      let later = kept-sum xs ys (λ m. keeps (suc m)) in
      omega (arith, a, b, own, later)

  -- past the end of one of them there is nothing
  abbrev first : List (Option T) → Option T
  first slots = at slots 0

  abbrev rest : List (Option T) → List (Option T)
  rest [] = []
  rest (x ∷ xs) = xs

  parts : (slots : List (Option T)) → slot_sum weight slots ≡ weigh weight (first slots) + slot_sum weight (rest slots)
  parts [] = omega arith
  parts (x ∷ xs) = sum_by-cons (weigh weight) x xs

  at-rest : (slots : List (Option T)) (m : ℕ) → at (rest slots) m ≡ at slots (suc m)
  at-rest [] m = refl
  at-rest (x ∷ xs) m = refl

  pub written-sum : (n : ℕ) (old new : List (Option T)) (x : Option T) → Writes old new n x → slot_sum weight new + weigh weight (at old n) ≡ slot_sum weight old + weigh weight x
  written-sum zero old new x writes =
      let a = parts old in
      let b = parts new in
      let here : weigh weight (first new) ≡ weigh weight x = ap (weigh weight) writes.here in
      let later = kept-sum (rest old) (rest new) (λ m. at-rest new m ∙ writes.others (suc m) (λ e. absurd (omega (arith, e))) ∙ sym (at-rest old m)) in
      omega (arith, a, b, here, later)
  written-sum (suc n) old new x writes =
      let a = parts old in
      let b = parts new in
      let own : weigh weight (first new) ≡ weigh weight (first old) = ap (weigh weight) (writes.others 0 (λ e. absurd (omega (arith, e)))) in
      let moved = written-sum n (rest old) (rest new) x (record {
        here = at-rest new n ∙ writes.here;
        others = λ m other. at-rest new m ∙ writes.others (suc m) (λ e. other (omega (arith, e))) ∙ sym (at-rest old m);
      }) in
      let was : weigh weight (at (rest old) n) ≡ weigh weight (at old (suc n)) = ap (weigh weight) (at-rest old n) in
      omega (arith, a, b, own, moved, was)
