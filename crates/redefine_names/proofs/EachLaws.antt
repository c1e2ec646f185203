-- The least of the faults of a list, one after another.
use Rattle.std.proofs.Common.{◌≡◌, ℕ, ◌+◌, ◌<◌, ◌≤◌, ◌⊎◌, inl, inr, List, [], ◌∷◌, ◌++◌, length, take, get_or, Option, None, sym, subst, arith}
use Rattle.std.proofs.lemmas.List.{take_more, take_all}
use Rattle.std.proofs.lemmas.List.Elements.{Contains-append_left, Contains-push, Contains-push_cases}
use Rattle.xs_codes.specs.declared.fault.Fault.{Fault}
use Rattle.xs_codes.specs.Least.{IsLeast, sooner}
use Rattle.xs_codes.proofs.LeastLaws.{least-sum, least-same}
use Rattle.redefine_names.specs.Each.{IsOfSome}

module _ {X : Type 0} (Is : X → Fault → Type 0) where
  pub least-none : (xs : List X) → IsLeast (IsOfSome Is (take 0 xs)) None
  least-none xs f o = absurd (let c = o.1 in omega (arith, c.1))

  pub least-more : (xs : List X) (i : ℕ) (d : X) (best found new : Option Fault) → i < length xs → new ≡ sooner best found
      → IsLeast (IsOfSome Is (take i xs)) best → IsLeast (Is (get_or xs i d)) found → IsLeast (IsOfSome Is (take (i + 1) xs)) new
  least-more xs i d best found new h e before own =
      subst (λ l. IsLeast (IsOfSome Is l) new) (sym (take_more xs i d h))
      (subst (IsLeast (IsOfSome Is (take i xs ++ x ∷ []))) (sym e)
      (least-same (λ f. IsOfSome Is (take i xs) f ⊎ Is x f) (IsOfSome Is (take i xs ++ x ∷ [])) to from (sooner best found) (least-sum (IsOfSome Is (take i xs)) (Is x) best found before own)))
    where
      x : X
      x = get_or xs i d

      to : (f : Fault) → IsOfSome Is (take i xs) f ⊎ Is x f → IsOfSome Is (take i xs ++ x ∷ []) f
      to f (inl o) = (o.0, Contains-append_left (take i xs) (x ∷ []) o.0 o.1, o.2)
      to f (inr s) = (x, Contains-push (take i xs) x, s)

      from : (f : Fault) → IsOfSome Is (take i xs ++ x ∷ []) f → IsOfSome Is (take i xs) f ⊎ Is x f
      from f o = elim (Contains-push_cases (take i xs) x o.0 o.1) [ inl c ↦ inl (o.0, c, o.2) | inr same ↦ inr (subst (λ y. Is y f) (sym same) o.2) ]

  pub least-all : (xs : List X) (i : ℕ) (best : Option Fault) → length xs ≤ i → IsLeast (IsOfSome Is (take i xs)) best → IsLeast (IsOfSome Is xs) best
  least-all xs i best l least = subst (λ ys. IsLeast (IsOfSome Is ys) best) (take_all i xs l) least
