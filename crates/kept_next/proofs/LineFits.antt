-- A symbol fits in one way.
use Rattle.std.proofs.Common.{◌≡◌, ◌<◌, ℕ, List, [], ◌∷◌, ◌++◌, refl, sym, subst, append-nil}
use Rattle.kept_next.specs.declared.symbol.Fit.{Fit}
use Rattle.kept_next.specs.declared.symbol.Fit.TheVariants.{No, Prefix, Word}
use Rattle.kept_next.specs.Next.{FitsAs, AreFits}

module _ {X : Type 0} (is_word : List X → Type 0) (before behind : List X) (one : X) where
  -- a word begins a word
  begins-none : is_word (before ++ one ∷ behind) → ((more : List X) → is_word (before ++ one ∷ (behind ++ more)) → ⊥) → ⊥
  begins-none word none = none [] (subst (λ (xs : List X). is_word (before ++ one ∷ xs)) (sym (append-nil behind)) word)

  pub one-fit : (fit other : Fit) → FitsAs is_word before behind one fit → FitsAs is_word before behind one other → fit ≡ other
  one-fit Word Word h k = refl
  one-fit Word Prefix h k = absurd (k.0 h)
  one-fit Word No h k = absurd (begins-none h k)
  one-fit Prefix Word h k = absurd (h.0 k)
  one-fit Prefix Prefix h k = refl
  one-fit Prefix No h k = absurd (k h.1.0 h.1.1)
  one-fit No Word h k = absurd (begins-none k h)
  one-fit No Prefix h k = absurd (h k.1.0 k.1.1)
  one-fit No No h k = refl

-- so the fit that was found of a symbol is the one that is said
pub found-fit : {X : Type 0} (is_word : List X → Type 0) (are_around : List X → List X → Type 0) (one_at : ℕ → X) (count : ℕ) (fit_of : ℕ → Fit) →
    AreFits is_word are_around one_at count fit_of → (n : ℕ) → n < count → (found : Fit) →
    ((before behind : List X) → are_around before behind → FitsAs is_word before behind (one_at n) found) → found ≡ fit_of n
found-fit is_word are_around one_at count fit_of (before, behind, around, fits) n less found h =
    one-fit is_word before behind (one_at n) found (fit_of n) (h before behind around) (fits n less)
