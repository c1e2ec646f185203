-- Of faults of one phase there is one first.
use Rattle.std.proofs.Common.{◌≡◌, ℕ, ◌==◌, Bool, true, false, if◌then◌else◌, Option, None, Some, refl, sym, ap, ◌∙◌, arith}
use Rattle.std.specs.Prelude.{◌+◌, ◌*◌, nat_lt, slice_get}
use Rattle.std.proofs.lemmas.Bool.{eqb-true}
use Rattle.std.proofs.lemmas.Option.{same_Some}
use Rattle.std.proofs.lemmas.Bool.Decides.{nat_tests}
use Rattle.xs_codes.specs.declared.code.Code.{Code}
use Rattle.xs_codes.specs.declared.code.Code.TheVariants.{XLimitValue, XLimitPattern}
use Rattle.xs_codes.specs.declared.fault.Fault.{Fault}
use Rattle.xs_codes.specs.Codes.{order_of, all_codes}
use Rattle.xs_codes.proofs.Apart.{placed}
use Rattle.xs_codes.specs.Least.{type_place, place_in, is_before, IsLeast}

-- no two codes stand in one place
order-same : (c d : Code) → order_of c ≡ order_of d → c ≡ d
order-same c d e = same_Some c d (sym (placed c) ∙ (ap (slice_get all_codes) e ∙ placed d))

type-same : (c d : Code) → type_place c ≡ type_place d → c ≡ d
type-same c d e = by (order_of c == order_of XLimitValue) refl (order_of d == order_of XLimitValue) refl e
  where
    by : (a : Bool) → (order_of c == order_of XLimitValue) ≡ a → (b : Bool) → (order_of d == order_of XLimitValue) ≡ b →
        (if a then 2 * order_of XLimitPattern + 1 else 2 * order_of c) ≡ (if b then 2 * order_of XLimitPattern + 1 else 2 * order_of d) → c ≡ d
    by true p true q h = order-same c d (eqb-true (order_of c) (order_of XLimitValue) p ∙ sym (eqb-true (order_of d) (order_of XLimitValue) q))
    by true p false q h = absurd (omega (arith, h))
    by false p true q h = absurd (omega (arith, h))
    by false p false q h = order-same c d (omega (arith, h))

code-same : (p q : ℕ) → p ≡ q → (c d : Code) → place_in p c ≡ place_in q d → c ≡ d
code-same p q same c d e = by (q == 5) (ap (λ (n : ℕ). place_in n c) (sym same) ∙ e)
  where
    by : (b : Bool) → (if b then type_place c else order_of c) ≡ (if b then type_place d else order_of d) → c ≡ d
    by true h = type-same c d h
    by false h = order-same c d h

-- by a number, and then otherwise
abbrev first_by : ℕ → ℕ → Bool → Bool
first_by a x then' = if a == x then then' else nat_lt a x

number-same : (a x : ℕ) (t u : Bool) → first_by a x t ≡ false → first_by x a u ≡ false → a ≡ x
number-same a x t u first second = grind (arith, nat_tests)

rest-same : (a x : ℕ) (t u : Bool) → a ≡ x → first_by a x t ≡ false → first_by x a u ≡ false → (t ≡ false) × (u ≡ false)
rest-same a x t u same first second = (grind (arith, nat_tests), grind (arith, nat_tests))

last-same : (c z : ℕ) → nat_lt c z ≡ false → nat_lt z c ≡ false → c ≡ z
last-same c z first second = grind (arith, nat_tests)

abbrev fault_of : ℕ → ℕ → ℕ → Code → Fault
fault_of phase document item code = record { phase = phase; document = document; item = item; code = code }

fields-same : (p d i q e j : ℕ) (c k : Code) → p ≡ q → d ≡ e → i ≡ j → c ≡ k → fault_of p d i c ≡ fault_of q e j k
fields-same p d i q e j c k one two three four = cc

-- two faults of one phase, neither of which is before the other
fault-same : (f g : Fault) → f.phase ≡ g.phase → is_before f g ≡ false → is_before g f ≡ false → f ≡ g
fault-same f g phase first second =
    let on = first_by f.item g.item (nat_lt (place_in f.phase f.code) (place_in g.phase g.code)) in
    let back = first_by g.item f.item (nat_lt (place_in g.phase g.code) (place_in f.phase f.code)) in
    let document : f.document ≡ g.document = number-same f.document g.document on back first second in
    let items = rest-same f.document g.document on back document first second in
    let item : f.item ≡ g.item = number-same f.item g.item (nat_lt (place_in f.phase f.code) (place_in g.phase g.code)) (nat_lt (place_in g.phase g.code) (place_in f.phase f.code)) items.0 items.1 in
    let codes = rest-same f.item g.item (nat_lt (place_in f.phase f.code) (place_in g.phase g.code)) (nat_lt (place_in g.phase g.code) (place_in f.phase f.code)) item items.0 items.1 in
    fields-same f.phase f.document f.item g.phase g.document g.item f.code g.code phase document item
    (code-same f.phase g.phase phase f.code g.code (last-same (place_in f.phase f.code) (place_in g.phase g.code) codes.0 codes.1))

module _ (Broken : Fault → Type 0) (phase : ℕ) (one : (f : Fault) → Broken f → f.phase ≡ phase) where
  pub least-one : (a b : Option Fault) → IsLeast Broken a → IsLeast Broken b → a ≡ b
  least-one None None p q = refl
  least-one None (Some g) p q = absurd (p g q.0)
  least-one (Some f) None p q = absurd (q f p.0)
  least-one (Some f) (Some g) p q = ap Some (fault-same f g (one f p.0 ∙ sym (one g q.0)) (q.1 f p.0) (p.1 g q.0))
