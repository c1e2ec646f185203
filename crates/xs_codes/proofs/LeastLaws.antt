-- The least of more faults.
use Rattle.std.proofs.Common.{◌≡◌, ℕ, ◌==◌, ◌⊎◌, inl, inr, Bool, true, false, if◌then◌else◌, Option, None, Some, refl, sym, ◌∙◌, arith}
use Rattle.std.specs.Prelude.{nat_lt}
use Rattle.std.proofs.lemmas.Bool.{false≢true}
use Rattle.std.proofs.lemmas.Bool.Decides.{nat_tests}
use Rattle.xs_codes.specs.declared.fault.Fault.{Fault}
use Rattle.xs_codes.specs.Least.{place_in, is_before, sooner, IsLeast, comes_first}

-- by a number, and then otherwise
abbrev first_by : ℕ → ℕ → Bool → Bool
first_by a x then' = if a == x then then' else nat_lt a x

-- by three numbers in turn
abbrev before : ℕ → ℕ → ℕ → ℕ → ℕ → ℕ → Bool
before a b c x y z = first_by a x (first_by b y (nat_lt c z))

not_itself : (a b c : ℕ) → before a b c a b c ≡ false
not_itself a b c = grind (arith, nat_tests)

not_past_first : (a x p : ℕ) (t u v : Bool) → (t ≡ true → u ≡ false → v ≡ false) → first_by a x t ≡ true → first_by a p u ≡ false → first_by x p v ≡ false
not_past_first a x p t u false h first second = grind (arith, nat_tests)
not_past_first a x p false u true h first second = grind (arith, nat_tests)
not_past_first a x p true true true h first second = grind (arith, nat_tests)
not_past_first a x p true false true h first second = absurd (false≢true (sym (h refl refl)))

not_past_last : (c z r : ℕ) → nat_lt c z ≡ true → nat_lt c r ≡ false → nat_lt z r ≡ false
not_past_last c z r first second = grind (arith, nat_tests)

not_past : (a b c x y z p q r : ℕ) → before a b c x y z ≡ true → before a b c p q r ≡ false → before x y z p q r ≡ false
not_past a b c x y z p q r =
    not_past_first a x p (first_by b y (nat_lt c z)) (first_by b q (nat_lt c r)) (first_by y q (nat_lt z r))
    (not_past_first b y q (nat_lt c z) (nat_lt c r) (nat_lt z r) (not_past_last c z r))

not_trans : (a b c x y z p q r : ℕ) → before a b c x y z ≡ false → before x y z p q r ≡ false → before a b c p q r ≡ false
not_trans a b c x y z p q r first second = grind (arith, nat_tests)

pub fault_not_itself : (f : Fault) → is_before f f ≡ false
fault_not_itself f = not_itself f.document f.item (place_in f.phase f.code)

pub fault_not_past : (f b m : Fault) → is_before f b ≡ true → is_before f m ≡ false → is_before b m ≡ false
fault_not_past f b m = not_past f.document f.item (place_in f.phase f.code) b.document b.item (place_in b.phase b.code) m.document m.item (place_in m.phase m.code)

pub fault_not_trans : (f b m : Fault) → is_before f b ≡ false → is_before b m ≡ false → is_before f m ≡ false
fault_not_trans f b m = not_trans f.document f.item (place_in f.phase f.code) b.document b.item (place_in b.phase b.code) m.document m.item (place_in m.phase m.code)

-- what is not before the later of two is not before the sooner
sooner_first : (f b : Fault) → is_before f b ≡ true → (g : Fault) → is_before g b ≡ false → is_before g f ≡ false
sooner_first f b e g not = by (is_before g f) refl
  where
    by : (t : Bool) → is_before g f ≡ t → is_before g f ≡ false
    by false e' = e'
    by true e' = absurd (false≢true (sym (fault_not_past g f b e' not) ∙ e))

module _ (A B : Fault → Type 0) where
  -- the least of all those of two kinds
  pub least-sum : (a b : Option Fault) → IsLeast A a → IsLeast B b → IsLeast (λ f. A f ⊎ B f) (sooner a b)
  least-sum None None is js = λ f either. elim either [ inl p ↦ is f p | inr q ↦ js f q ]
  least-sum None (Some b) is js = (inr js.0, on)
    where
      on : (g : Fault) → A g ⊎ B g → is_before g b ≡ false
      on g (inl p) = absurd (is g p)
      on g (inr q) = js.1 g q
  least-sum (Some a) None is js = (inl is.0, on)
    where
      on : (g : Fault) → A g ⊎ B g → is_before g a ≡ false
      on g (inl p) = is.1 g p
      on g (inr q) = absurd (js g q)
  least-sum (Some a) (Some b) is js = by (is_before b a) refl
    where
      by : (t : Bool) → is_before b a ≡ t → IsLeast (λ f. A f ⊎ B f) (if t then Some b else Some a)
      by true e = (inr js.0, on)
        where
          on : (g : Fault) → A g ⊎ B g → is_before g b ≡ false
          on g (inl p) = sooner_first b a e g (is.1 g p)
          on g (inr q) = js.1 g q
      by false e = (inl is.0, on)
        where
          on : (g : Fault) → A g ⊎ B g → is_before g a ≡ false
          on g (inl p) = is.1 g p
          on g (inr q) = fault_not_trans g b a (js.1 g q) e

  -- the least of those that are the same
  pub least-same : ((f : Fault) → A f → B f) → ((f : Fault) → B f → A f) → (r : Option Fault) → IsLeast A r → IsLeast B r
  least-same to from None is = λ f q. is f (from f q)
  least-same to from (Some f) is = (to f is.0, λ g q. is.1 g (from g q))

module _ (A B : Fault → Type 0) (fault : Fault) (more : (f : Fault) → A f → B f) (only : (f : Fault) → B f → A f ⊎ (f ≡ fault)) where
  -- one fault more, which comes first
  pub least-first : (best : Option Fault) → IsLeast A best → B fault → comes_first fault best ≡ true → IsLeast B (Some fault)
  least-first best is here first = (here, λ g q. on best is first g (only g q))
    where
      on : (best : Option Fault) → IsLeast A best → comes_first fault best ≡ true → (g : Fault) → A g ⊎ (g ≡ fault) → is_before g fault ≡ false
      on None is e g (inl p) = absurd (is g p)
      on (Some b) is e g (inl p) = sooner_first fault b e g (is.1 g p)
      on best is e g (inr same) = rw same (fault_not_itself fault)

  -- one fault more, which does not come first
  pub least-behind : (best : Option Fault) → IsLeast A best → comes_first fault best ≡ false → IsLeast B best
  least-behind None is e = absurd (false≢true (sym e))
  least-behind (Some b) is e = (more b is.0, λ g q. on g (only g q))
    where
      on : (g : Fault) → A g ⊎ (g ≡ fault) → is_before g b ≡ false
      on g (inl p) = is.1 g p
      on g (inr same) = rw same e
