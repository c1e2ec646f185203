-- Faults at the places of types, and the first of several.
use Rattle.std.proofs.Common.{◌≡◌, ◌⊎◌, inl, inr, ℕ, ◌<◌, ◌≤◌, ◌==◌, Bool, true, false, if◌then◌else◌, Option, None, Some, refl, sym, ◌∙◌, subst, arith}
use Rattle.std.specs.Prelude.{nat_lt, not, IfSome}
use Rattle.std.specs.Ordering.{MatchOrdering, nat_cmp, ordering_then}
use Rattle.std.specs.declared.cmp.Ordering.{Ordering}
use Rattle.std.specs.declared.cmp.Ordering.TheVariants.{Less, Equal, Greater}
use Rattle.std.specs.Cmp.{ranks}
use Rattle.std.proofs.lemmas.Bool.{false≢true}
use Rattle.std.proofs.lemmas.Bool.Decides.{nat_tests}
use Rattle.std.proofs.lemmas.Option.{none-some}
use Rattle.xs_codes.specs.declared.code.Code.{Code}
use Rattle.xs_codes.specs.declared.fault.Fault.{Fault}
use Rattle.xs_codes.specs.Codes.{order_of}
use Rattle.xs_codes.specs.Least.{place_in, is_before, sooner, IsLeast}
use Rattle.xs_codes.proofs.LeastLaws.{fault_not_past, fault_not_trans}
use Rattle.xs_components.specs.Tables.{Tables}
use Rattle.schema_models.specs.declared.fault.ModelFault.{ModelFault}
use Rattle.schema_models.specs.declared.fault.ModelFault.TheVariants.{TooManyPositions, TooManyStates, TableTooLarge, Inconsistent, Ambiguous}
use Rattle.schema_models.specs.SetModels.{place_of, by_place, type_fault, code_of}
use Rattle.schema_models.specs.inside.Steps.{IsNotBefore, IsLimit, is_elsewhere}

-- ---- one more fault
kept-behind : (f b g : Fault) → is_before f b ≡ true → is_before g b ≡ false → is_before g f ≡ false
kept-behind f b g e not-b = by (is_before g f) refl
  where
    by : (r : Bool) → is_before g f ≡ r → is_before g f ≡ false
    by false h = h
    by true h = absurd (false≢true (sym (fault_not_past g f b h not-b) ∙ e))

pub not-before-left : (a b : Option Fault) (g : Fault) → IsNotBefore a g → IsNotBefore (sooner a b) g
not-before-left None b g h = absurd h
not-before-left (Some f) None g h = h
not-before-left (Some f) (Some o) g h = by (is_before o f) refl
  where
    by : (r : Bool) → is_before o f ≡ r → IsNotBefore (if r then Some o else Some f) g
    by true e = kept-behind o f g e h
    by false e = h

pub not-before-right : (a b : Option Fault) (g : Fault) → IsNotBefore b g → IsNotBefore (sooner a b) g
not-before-right None b g h = h
not-before-right (Some f) None g h = absurd h
not-before-right (Some f) (Some o) g h = by (is_before o f) refl
  where
    by : (r : Bool) → is_before o f ≡ r → IsNotBefore (if r then Some o else Some f) g
    by true e = h
    by false e = fault_not_trans g o f h e

pub some-of : (P : Fault → Type 0) (a b : Option Fault) → IfSome a P → IfSome b P → IfSome (sooner a b) P
some-of P None b x y = y
some-of P (Some f) None x y = x
some-of P (Some f) (Some o) x y = by (is_before o f)
  where
    by : (r : Bool) → IfSome (if r then Some o else Some f) P
    by true = y
    by false = x

pub stays : (f o : Fault) → is_before o f ≡ false → sooner (Some f) (Some o) ≡ Some f
stays f o e = by (is_before o f) e
  where
    by : (r : Bool) → r ≡ false → (if r then Some o else Some f) ≡ Some f
    by true h = absurd (false≢true (sym h))
    by false h = refl

pub sooner-some : (a : Option Fault) (f : Fault) → sooner a (Some f) ≡ None → ⊥
sooner-some None f e = none-some f (sym e)
sooner-some (Some b) f e = by (is_before f b) e
  where
    by : (r : Bool) → (if r then Some f else Some b) ≡ None → ⊥
    by true h = none-some f (sym h)
    by false h = none-some b (sym h)

pub least-of : (P : Fault → Type 0) (r : Option Fault) → IfSome r P → ((g : Fault) → P g → IsNotBefore r g) → IsLeast P r
least-of P None s n = n
least-of P (Some f) s n = (s, n)

-- ---- places
abbrev before : ℕ → ℕ → ℕ → ℕ → ℕ → ℕ → Bool
before a b c x y z = if a == x then (if b == y then nat_lt c z else nat_lt b y) else nat_lt a x

at-one : (d i c e : ℕ) → e ≤ c → before d i c d i e ≡ false
at-one d i c e l = grind (arith, nat_tests)

at-other : (d i c x y z : ℕ) → (if x == d then not (y == i) else true) ≡ false → z ≤ c → before d i c x y z ≡ false
at-other d i c x y z e l = grind (arith, nat_tests)

at-later : (d i c x y z : ℕ) → (x < d) ⊎ ((x ≡ d) × (y ≤ i)) → (if x == d then not (y == i) else true) ≡ true → before d i c x y z ≡ false
at-later d i c x y z (inl l) e = grind (arith, nat_tests)
at-later d i c x y z (inr l) e = let a = l.0 in let b = l.1 in grind (arith, nat_tests)

greater-less : Greater ≡ Less → ⊥
greater-less e = cc

up-to : (x y d i : ℕ) (o p q : Ordering) → MatchOrdering o (x < d) (x ≡ d) (d < x) → MatchOrdering p (y < i) (y ≡ i) (i < y) → ordering_then (ordering_then o p) q ≡ Less → (x < d) ⊎ ((x ≡ d) × (y ≤ i))
up-to x y d i Less p q a b e = inl a
up-to x y d i Equal Less q a b e = inr (a, omega (arith, b))
up-to x y d i Equal Equal q a b e = inr (a, omega (arith, b))
up-to x y d i Equal Greater q a b e = absurd (greater-less e)
up-to x y d i Greater p q a b e = absurd (greater-less e)

module _ (t : Tables) where
  -- two faults of one type
  pub one-type : (type : ℕ) (c d : Code) → order_of d ≤ order_of c → is_before (type_fault t type c) (type_fault t type d) ≡ false
  one-type type c d l = at-one (place_of t type).document (place_of t type).item (order_of c) (order_of d) l

  -- at the place of a fault
  pub one-place : (f : Fault) (type : ℕ) (c : Code) → is_elsewhere (Some f) (place_of t type) ≡ false → place_in f.phase f.code ≤ order_of c → is_before (type_fault t type c) f ≡ false
  one-place f type c e l = at-other (place_of t type).document (place_of t type).item (order_of c) f.document f.item (place_in f.phase f.code) e l

  -- behind the place of a fault
  pub later-place : (f : Fault) (known type : ℕ) (c d : Code) → f ≡ type_fault t known d → by_place t known type ≡ Less → is_elsewhere (Some f) (place_of t type) ≡ true → is_before (type_fault t type c) f ≡ false
  later-place f known type c d is less e =
      subst (λ (o : Fault). is_before (type_fault t type c) o ≡ false) (sym is)
      (at-later (place_of t type).document (place_of t type).item (order_of c) (place_of t known).document (place_of t known).item (order_of d)
      (up-to (place_of t known).document (place_of t known).item (place_of t type).document (place_of t type).item
      (nat_cmp (place_of t known).document (place_of t type).document) (nat_cmp (place_of t known).item (place_of t type).item) (nat_cmp known type)
      (ranks (place_of t known).document (place_of t type).document) (ranks (place_of t known).item (place_of t type).item) less)
      (subst (λ (o : Fault). is_elsewhere (Some o) (place_of t type) ≡ true) is e))

-- ---- the order of codes
pub limit-first : (kind : ModelFault) → IsLimit kind → order_of (code_of kind) ≤ order_of (code_of TableTooLarge)
limit-first TooManyPositions is = omega arith
limit-first TooManyStates is = omega arith
limit-first TableTooLarge is = omega arith
limit-first Inconsistent is = absurd is
limit-first Ambiguous is = absurd is

pub limit-before : (kind : ModelFault) → IsLimit kind → (order_of (code_of kind) ≤ order_of (code_of Inconsistent)) × (order_of (code_of kind) ≤ order_of (code_of Ambiguous))
limit-before TooManyPositions is = (omega arith, omega arith)
limit-before TooManyStates is = (omega arith, omega arith)
limit-before TableTooLarge is = (omega arith, omega arith)
limit-before Inconsistent is = absurd is
limit-before Ambiguous is = absurd is
