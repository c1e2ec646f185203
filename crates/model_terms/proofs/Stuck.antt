-- The place where children get stuck, along their symbols.
use Rattle.std.proofs.Common.{◌≡◌, ℕ, suc, ◌<◌, inl, inr, Bool, true, false, List, [], ◌∷◌, ◌++◌, Option, None, Some, take, length, refl, sym, ap, subst, ◌∙◌, arith, append_assoc, append-nil, length-append}
use Rattle.std.specs.Prelude.{if◌then◌else◌}
use Rattle.std.proofs.lemmas.Bool.{cases_lt, false≢true}
use Rattle.std.proofs.lemmas.List.{take_all, take-append-le}
use Rattle.content_models.specs.declared.automaton.ContentAutomaton.{ContentAutomaton}
use Rattle.model_terms.specs.Terms.{begins, is_word, stuck_after}
use Rattle.model_terms.specs.Places.{BeginUpTo, IsStuckAt, IsBefore}
use Rattle.model_terms.proofs.Along.{begins-take}

module _ (a : ContentAutomaton) (symbols : List ℕ) where
  ended : (before : List ℕ) → before ++ [] ≡ symbols → BeginUpTo a symbols (length before) → (b : Bool) → is_word a before ≡ b → IsStuckAt a symbols (if b then None else Some (length before))
  ended before e upto true w =
      let same : before ≡ symbols = sym (append-nil before) ∙ e in
      (subst (λ xs. BeginUpTo a symbols (length xs)) same upto, subst (λ xs. is_word a xs ≡ true) same w)
  ended before e upto false w =
      let same : before ≡ symbols = sym (append-nil before) ∙ e in
      (upto, inr (ap length same, subst (λ xs. is_word a xs ≡ false) same w))

  module _ (before : List ℕ) (n : ℕ) (rest : List ℕ) (e : before ++ n ∷ rest ≡ symbols) (upto : BeginUpTo a symbols (length before)) where
    whole : (before ++ n ∷ []) ++ rest ≡ symbols
    whole = append_assoc before (n ∷ []) rest ∙ e

    many : length (before ++ n ∷ []) ≡ suc (length before)
    many = length-append before (n ∷ []) ∙ omega arith

    first : take (suc (length before)) symbols ≡ before ++ n ∷ []
    first =
        ap (take (suc (length before))) (sym whole) ∙
        (take-append-le (suc (length before)) (before ++ n ∷ []) rest (let m = many in omega arith) ∙ take_all (suc (length before)) (before ++ n ∷ []) (let m = many in omega arith))

    within : length before < length symbols
    within = let k = ap length (sym whole) ∙ length-append (before ++ n ∷ []) rest in let m = many in omega arith

    more : begins a (before ++ n ∷ []) ≡ true → BeginUpTo a symbols (length (before ++ n ∷ []))
    more h k l = elim (cases_lt k (length before)) [
      | inl less ↦ upto k less
      | inr last ↦ (
          let same : k ≡ length before = (let m = many in omega arith) in
          subst (λ xs. begins a xs ≡ true) (sym (ap (λ k. take (suc k) symbols) same ∙ first)) h)
    ]

    next : (IsStuckHere : begins a (before ++ n ∷ []) ≡ true → IsStuckAt a symbols (stuck_after a (before ++ n ∷ []) rest)) → (b : Bool) → begins a (before ++ n ∷ []) ≡ b →
        IsStuckAt a symbols (if b then stuck_after a (before ++ n ∷ []) rest else Some (length before))
    next there true h = there h
    next there false h = (upto, inl (within, subst (λ xs. begins a xs ≡ false) (sym first) h))

  stuck-on : (before rest : List ℕ) → before ++ rest ≡ symbols → BeginUpTo a symbols (length before) → IsStuckAt a symbols (stuck_after a before rest)
  stuck-on before [] e upto = ended before e upto (is_word a before) refl
  stuck-on before (n ∷ rest) e upto =
      next before n rest e upto (λ h. stuck-on (before ++ n ∷ []) rest (whole before n rest e upto) (more before n rest e upto h)) (begins a (before ++ n ∷ [])) refl

  pub stuck-is : IsStuckAt a symbols (stuck_after a [] symbols)
  stuck-is = stuck-on [] symbols refl (λ k l. absurd (omega arith))

  -- ---- there is but one
  both : (k : ℕ) → begins a (take (suc k) symbols) ≡ true → begins a (take (suc k) symbols) ≡ false → ⊥
  both k e f = false≢true (sym f ∙ e)

  none-other : (i : ℕ) → IsStuckAt a symbols None → IsStuckAt a symbols (Some i) → ⊥
  none-other i (upto, w) (up, inl (l, f)) = both i (upto i l) f
  none-other i (upto, w) (up, inr (e, f)) = false≢true (sym f ∙ w)

  not-less : (i j : ℕ) → IsStuckAt a symbols (Some i) → IsStuckAt a symbols (Some j) → i < j → ⊥
  not-less i j (upto, inl (l, f)) (up, h) less = both i (up i less) f
  not-less i j (upto, inr (e, f)) (up, inl (l, g)) less = omega arith
  not-less i j (upto, inr (e, f)) (up, inr (g, h)) less = omega arith

  pub one-stuck : (o p : Option ℕ) → IsStuckAt a symbols o → IsStuckAt a symbols p → o ≡ p
  one-stuck None None h k = refl
  one-stuck None (Some i) h k = absurd (none-other i h k)
  one-stuck (Some i) None h k = absurd (none-other i k h)
  one-stuck (Some i) (Some j) h k = elim (cases_lt i j) [
    | inl less ↦ absurd (not-less i j h k less)
    | inr more ↦ elim (cases_lt j i) [
      | inl less ↦ absurd (not-less j i k h less)
      | inr same ↦ ap Some (omega arith)
    ]
  ]

  -- ---- before it the symbols begin words, and nowhere else
  pub before-begins : (stuck : Option ℕ) → IsStuckAt a symbols stuck → (k : ℕ) → k < length symbols → IsBefore stuck k → begins a (take (suc k) symbols) ≡ true
  before-begins None h k l b = h.0 k l
  before-begins (Some i) h k l b = h.0 k b

  pub begins-before : (stuck : Option ℕ) → IsStuckAt a symbols stuck → (k : ℕ) → k < length symbols → begins a (take (suc k) symbols) ≡ true → IsBefore stuck k
  begins-before None h k l e = tt
  begins-before (Some i) (upto, inl (there, f)) k l e = elim (cases_lt k i) [
    | inl less ↦ less
    | inr more ↦ absurd (both i (begins-take a symbols (suc i) (suc k) (omega arith) e) f)
  ]
  begins-before (Some i) (upto, inr (all, f)) k l e = omega arith
