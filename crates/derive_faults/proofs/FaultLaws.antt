-- The first code of a complex type, and the first fault of all.
use Rattle.std.proofs.Common.{◌≡◌, ◌⊎◌, inl, inr, ℕ, ◌+◌, ◌<◌, ◌≤◌, Bool, true, false, Option, None, Some, length, slice_get, refl, sym, ◌∙◌, subst, ap, arith}
use Rattle.std.specs.Prelude.{◌↔◌, ◌==◌, not, IsTrue, nat_lt, if◌then◌else◌}
use Rattle.std.specs.Option.{option_map}
use Rattle.std.proofs.lemmas.Bool.{cases_eq, false≢true}
use Rattle.std.proofs.lemmas.Bool.Decides.{nat_tests}
use Rattle.std.proofs.lemmas.Option.{same_Some, slice_get_within}
use Rattle.xs_codes.specs.declared.code.Code.{Code}
use Rattle.xs_codes.specs.declared.fault.Fault.{Fault}
use Rattle.xs_codes.specs.Codes.{order_of}
use Rattle.xs_components.specs.Tables.{Tables}
use Rattle.xs_components.specs.declared.common.Place.{Place}
use Rattle.xs_components.specs.declared.complex.ComplexType.{ComplexType}
use Rattle.xs_codes.specs.Least.{IsLeast, is_before, sooner}
use Rattle.xs_codes.proofs.LeastLaws.{least-sum, least-same}
use Rattle.derive_faults.specs.TypeFaults.{type_fault, IsFaultAt, IsTypeFault, IsBelow, IsFaultBelow, IsFirstCode, stands_before, when, earlier}

not-less : (a : ℕ) → nat_lt a a ≡ false
not-less a = grind (arith, nat_tests)

past : (f b m : ℕ) → nat_lt f b ≡ true → nat_lt m b ≡ false → nat_lt m f ≡ false
past f b m first second = grind (arith, nat_tests)

behind : (f b m : ℕ) → nat_lt m b ≡ false → nat_lt b f ≡ false → nat_lt m f ≡ false
behind f b m first second = grind (arith, nat_tests)

pub not-itself : (code : Code) → stands_before code code ≡ false
not-itself code = not-less (order_of code)

-- one constraint with one code
pub when-first : (P : Type 0) (broken : Bool) (code : Code) → IsTrue broken ↔ P → IsFirstCode (λ c. P × (c ≡ code)) (when broken code)
when-first P true code told = ((told.0 refl, refl), λ other x. subst (λ c. stands_before c code ≡ false) (sym x.1) (not-itself code))
when-first P false code told = λ c x. false≢true (told.1 x.0)

-- by a test that answers whether it is broken, or whether it is kept
pub when-true : (x broken : Bool) (code : Code) → broken ≡ x → IsFirstCode (λ c. (x ≡ true) × (c ≡ code)) (when broken code)
when-true x broken code e = when-first (x ≡ true) broken code ((λ h. sym e ∙ h), (λ h. e ∙ h))

pub when-false : (x kept : Bool) (code : Code) → kept ≡ x → IsFirstCode (λ c. (x ≡ false) × (c ≡ code)) (when (not kept) code)
when-false x kept code e = when-first (x ≡ false) (not kept) code ((λ h. sym e ∙ turned kept h), (λ h. ap not (e ∙ h)))
  where
    turned : (b : Bool) → not b ≡ true → b ≡ false
    turned true h = sym h
    turned false h = refl

-- by a test that answers whether it is met
pub when-refuted : (P : Type 0) (met : Bool) (code : Code) → IsTrue met ↔ P → IsFirstCode (λ c. (P → ⊥) × (c ≡ code)) (when (not met) code)
when-refuted P true code told = λ c x. x.0 (told.0 refl)
when-refuted P false code told = (((λ p. false≢true (told.1 p)), refl), λ other x. subst (λ c. stands_before c code ≡ false) (sym x.1) (not-itself code))

-- a constraint that is asked under a premise
pub given-first : (P : Type 0) (A : Code → Type 0) → P → (r : Option Code) → IsFirstCode A r → IsFirstCode (λ c. P × A c) r
given-first P A here None is = λ c x. is c x.1
given-first P A here (Some code) is = ((here, is.0), λ c x. is.1 c x.1)

-- two constraints
module _ (A B : Code → Type 0) where
  pub earlier-first : (a b : Option Code) → IsFirstCode A a → IsFirstCode B b → IsFirstCode (λ c. A c ⊎ B c) (earlier a b)
  earlier-first None None is js = λ c either. elim either [ inl x ↦ is c x | inr y ↦ js c y ]
  earlier-first None (Some b) is js = (inr js.0, λ c either. elim either [ inl x ↦ absurd (is c x) | inr y ↦ js.1 c y ])
  earlier-first (Some a) None is js = (inl is.0, λ c either. elim either [ inl x ↦ is.1 c x | inr y ↦ absurd (js c y) ])
  earlier-first (Some a) (Some b) is js = by (stands_before b a) refl
    where
      by : (first : Bool) → stands_before b a ≡ first → IsFirstCode (λ c. A c ⊎ B c) (if first then Some b else Some a)
      by true e = (inr js.0, λ c either. elim either [ inl x ↦ past (order_of b) (order_of a) (order_of c) e (is.1 c x) | inr y ↦ js.1 c y ])
      by false e = (inl is.0, λ c either. elim either [ inl x ↦ is.1 c x | inr y ↦ behind (order_of a) (order_of b) (order_of c) (js.1 c y) e ])

  pub both-first : (a b r : Option Code) → r ≡ earlier a b → IsFirstCode A a → IsFirstCode B b → IsFirstCode (λ c. A c ⊎ B c) r
  both-first a b r e is js = subst (IsFirstCode (λ c. A c ⊎ B c)) (sym e) (earlier-first a b is js)

  -- those that are the same
  pub first-same : ((c : Code) → A c → B c) → ((c : Code) → B c → A c) → (r : Option Code) → IsFirstCode A r → IsFirstCode B r
  first-same to from None is = λ c y. is c (from c y)
  first-same to from (Some code) is = (to code is.0, λ c y. is.1 c (from c y))

-- faults of one place come by their codes, but for the phase of simple types
same-place : (phase : ℕ) → (phase == 5) ≡ false → (at : Place) (a b : Code) → stands_before a b ≡ false → is_before (type_fault phase at a) (type_fault phase at b) ≡ false
same-place phase later at a b e = rw (same at.document, same at.item, later) e
  where
    same : (x : ℕ) → (x == x) ≡ true
    same x = grind (arith, nat_tests)

-- the first fault of one place
pub place-least : (phase : ℕ) → (phase == 5) ≡ false → (at : Place) (Broken : Code → Type 0) (code : Option Code) (found : Option Fault) → found ≡ option_map (type_fault phase at) code → IsFirstCode Broken code → IsLeast (λ f. (c : Code) × Broken c × (f ≡ type_fault phase at c)) found
place-least phase later at Broken code found e first = subst (IsLeast (λ f. (c : Code) × Broken c × (f ≡ type_fault phase at c))) (sym e) (by code first)
  where
    by : (code : Option Code) → IsFirstCode Broken code → IsLeast (λ f. (c : Code) × Broken c × (f ≡ type_fault phase at c)) (option_map (type_fault phase at) code)
    by None first = λ f x. first x.0 x.1
    by (Some code) first = (
      (code, first.0, refl),
      λ g x. subst (λ f. is_before f (type_fault phase at code) ≡ false) (sym x.2) (same-place phase later at x.0 code (first.1 x.0 x.1)),
    )

-- the faults of components one after another
module _ (Is : ℕ → Fault → Type 0) where
  pub none-below : IsLeast (IsBelow Is 0) None
  none-below f x = absurd (omega (arith, x.1))

  pub one-more : (n : ℕ) (best found new : Option Fault) → new ≡ sooner best found → IsLeast (IsBelow Is n) best → IsLeast (Is n) found → IsLeast (IsBelow Is (n + 1)) new
  one-more n best found new is before own =
      subst (IsLeast (IsBelow Is (n + 1))) (sym is)
      (least-same (λ f. IsBelow Is n f ⊎ Is n f) (IsBelow Is (n + 1))
      (λ f either. elim either [ inl x ↦ (x.0, omega (arith, x.1), x.2) | inr x ↦ (n, omega arith, x) ])
      (λ f x. elim (cases_eq x.0 n) [ inl same ↦ inr (subst (λ e. Is e f) same x.2) | inr differ ↦ inl (x.0, omega (arith, x.1, differ), x.2) ])
      (sooner best found) (least-sum (IsBelow Is n) (Is n) best found before own))

  -- a turn of a loop: `there` says which one is looked at
  pub next-in : (count n id : ℕ) (best found new : Option Fault) → (id ≡ n) × (n < count) → new ≡ sooner best found → IsLeast (IsBelow Is n) best → IsLeast (Is id) found → (n + 1 ≤ count) × IsLeast (IsBelow Is (n + 1)) new
  next-in count n id best found new there is before own =
      let l = there.1 in
      (omega (arith, l), one-more n best found new is before (subst (λ x. IsLeast (Is x) found) there.0 own))

  pub all-in : (count n : ℕ) (best : Option Fault) → count ≤ n → ((k : ℕ) (f : Fault) → Is k f → k < count) → IsLeast (IsBelow Is n) best → IsLeast (λ f. (k : ℕ) × Is k f) best
  all-in count n best l there least =
      least-same (IsBelow Is n) (λ f. (k : ℕ) × Is k f) (λ f x. (x.0, x.2))
      (λ f x. let within = there x.0 f x.1 in (x.0, omega (arith, l, within), x.1)) best least

module _ (phase : ℕ) (t : Tables) (Breaks : ℕ → ComplexType → Code → Type 0) where
  -- the first fault of one complex type
  pub coded-least : (phase == 5) ≡ false → (n : ℕ) (part : ComplexType) → slice_get t.complexes.parts n ≡ Some part → (code : Option Code) (found : Option Fault) → found ≡ option_map (type_fault phase part.at) code → IsFirstCode (Breaks n part) code → IsLeast (IsFaultAt phase t Breaks n) found
  coded-least later n part is code found e first =
      least-same (λ f. (c : Code) × Breaks n part c × (f ≡ type_fault phase part.at c)) (IsFaultAt phase t Breaks n)
      (λ f x. (part, x.0, is, x.1, x.2))
      (λ f x. subst (λ (p : ComplexType). (c : Code) × Breaks n p c × (f ≡ type_fault phase p.at c)) (same_Some x.0 part (sym x.2 ∙ is)) (x.1, x.3, x.4))
      found (place-least phase later part.at (Breaks n part) code found e first)

  -- a turn of a loop over all complex types
  pub next-one : (n id : ℕ) (best found new : Option Fault) → (id ≡ n) × (n < length t.complexes.parts) → new ≡ sooner best found → IsLeast (IsFaultBelow phase t Breaks n) best → IsLeast (IsFaultAt phase t Breaks id) found →
      (n + 1 ≤ length t.complexes.parts) × IsLeast (IsFaultBelow phase t Breaks (n + 1)) new
  next-one = next-in (IsFaultAt phase t Breaks) (length t.complexes.parts)

  -- all complex types
  pub all-below : (n : ℕ) (best : Option Fault) → length t.complexes.parts ≤ n → IsLeast (IsFaultBelow phase t Breaks n) best → IsLeast (IsTypeFault phase t Breaks) best
  all-below n best l least = all-in (IsFaultAt phase t Breaks) (length t.complexes.parts) n best l (λ k f x. slice_get_within t.complexes.parts k x.0 x.2) least
