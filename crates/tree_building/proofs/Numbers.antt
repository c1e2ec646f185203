-- Nodes that are numbered in document order have numbers that differ.
use Rattle.std.proofs.Common.{◌≡◌, ◌⊎◌, inl, inr, ℕ, ◌+◌, ◌≤◌, ◌<◌, Bool, true, false, ◌==◌, refl, sym, ap, ◌∙◌, arith, subst}
use Rattle.std.specs.Prelude.{if◌then◌else◌}
use Rattle.std.proofs.lemmas.Bool.Decides.{nat_tests}
use Rattle.tree_rows.specs.Forest.{Forest, none, text, element, count, numbered}
use Rattle.tree_rows.specs.Whole.{times}

-- a number is given once from low on and below high, or not at all
abbrev pub IsOnce : ℕ → ℕ → ℕ → ℕ → Type 0
IsOnce key low high t = (t ≡ 0) ⊎ ((t ≡ 1) × (low ≤ key) × (key < high))

join : (key low mid high a b : ℕ) → low ≤ mid → mid ≤ high → IsOnce key low mid a → IsOnce key mid high b → IsOnce key low high (a + b)
join key low mid high a b l h (inl x) (inl y) = inl (omega (arith, x, y))
join key low mid high a b l h (inl x) (inr y) = inr (omega (arith, x, y.0), omega (arith, y.1, l), y.2)
join key low mid high a b l h (inr x) (inl y) = inr (omega (arith, x.0, y), x.1, omega (arith, x.2, h))
join key low mid high a b l h (inr x) (inr y) = absurd (omega (arith, x.2, y.1))

own_if : (key n number : ℕ) → n ≡ number → (t : Bool) → (n == key) ≡ t → IsOnce key number (number + 1) (if t then 1 else 0)
own_if key n number e true t = let is : n ≡ key = grind (arith, nat_tests, t) in inr (refl, omega (arith, e, is), omega (arith, e, is))
own_if key n number e false t = inl refl

own : (key n number : ℕ) → n ≡ number → IsOnce key number (number + 1) (if n == key then 1 else 0)
own key n number e = own_if key n number e (n == key) refl

pub times_in : (key number high : ℕ) (f : Forest) → numbered number f → number + count f ≡ high → IsOnce key number high (times key f)
times_in key number high none is size = inl refl
times_in key number high (text n chars next) is size =
    join key number (number + 1) high (if n == key then 1 else 0) (times key next) (omega arith) (omega (arith, size))
    (own key n number is.0) (times_in key (number + 1) high next is.1 (omega (arith, size)))
times_in key number high (element n name bindings attributes children next) is size =
    let mid = number + 1 + count children in
    join key number (number + 1) high (if n == key then 1 else 0) (times key children + times key next) (omega arith) (omega (arith, size))
    (own key n number is.0)
    (join key (number + 1) mid high (times key children) (times key next) (omega arith) (omega (arith, size))
    (times_in key (number + 1) mid children is.1 refl) (times_in key mid high next is.2 (omega (arith, size))))

once : (key low high t : ℕ) → IsOnce key low high t → t ≤ 1
once key low high t (inl x) = omega (arith, x)
once key low high t (inr x) = omega (arith, x.0)

-- no two nodes have one number
pub numbers_differ : (key number : ℕ) (f : Forest) → numbered number f → times key f ≤ 1
numbers_differ key number f is = once key number (number + count f) (times key f) (times_in key number (number + count f) f is refl)
