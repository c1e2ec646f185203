-- Signs are the same where `==` finds them so.
use Rattle.std.proofs.Common.{◌≡◌, ℕ, Bool, true, false, ◌&&◌, ◌==◌, Option, None, Some, refl, ap}
use Rattle.std.specs.Option.{option_eq}
use denote.Enum.Bare.{same_true}
use Rattle.std.proofs.lemmas.Bool.{false≢true, eqb-true}
use Rattle.xs_codes.specs.contracts.builtin.Builtin.{the_type}
use Rattle.xs_components.specs.declared.common.TypeId.{TypeId}
use Rattle.xs_components.specs.declared.common.TypeId.TheVariants.{AnyType, Builtin, Simple, Complex}
use Rattle.xs_components.specs.contracts.common.TypeIdPartialEq.TheImpl as types
use Rattle.elem_governing.specs.declared.pairs.Governing.{Governing}
use Rattle.elem_governing.specs.contracts.pairs.Mode.{the_type as mode_type}
use Rattle.elem_governing.specs.contracts.pairs.GoverningPartialEq.TheImpl as pairs
use Rattle.kept_targets.specs.declared.keys.ElementSign.{ElementSign}
use Rattle.kept_targets.specs.contracts.keys.ElementSignPartialEq.TheImpl as signs

both : (a b : Bool) → (a && b) ≡ true → (a ≡ true) × (b ≡ true)
both true true e = (refl, refl)
both true false e = absurd (false≢true e)
both false b e = absurd (false≢true e)

option-same : {T : Type 0} (E : T → T → Bool) → ((x y : T) → E x y ≡ true → x ≡ y) → (a b : Option T) → option_eq E a b ≡ true → a ≡ b
option-same E same None None e = refl
option-same E same None (Some y) e = absurd (false≢true e)
option-same E same (Some x) None e = absurd (false≢true e)
option-same E same (Some x) (Some y) e = ap Some (same x y e)

number-same : (a b : ℕ) → (a == b) ≡ true → a ≡ b
number-same a b e = eqb-true a b e

type-same : (a b : TypeId) → types.eq-value.it a b ≡ true → a ≡ b
type-same AnyType AnyType e = refl
type-same (Builtin j) (Builtin k) e = ap Builtin (same_true the_type tt j k e)
type-same (Simple j) (Simple k) e = ap Simple (number-same j k e)
type-same (Complex j) (Complex k) e = ap Complex (number-same j k e)
type-same a b e = absurd (false≢true e)

pair-same : (a b : Governing) → pairs.eq-value.it a b ≡ true → a ≡ b
pair-same a b e =
    let h = both _ _ e in
    let k = both _ _ h.1 in
    let declaration : a.declaration ≡ b.declaration = option-same _ number-same a.declaration b.declaration h.0 in
    let of : a.of ≡ b.of = option-same _ type-same a.of b.of k.0 in
    let mode : a.mode ≡ b.mode = same_true mode_type tt a.mode b.mode k.1 in
    λ i. record { declaration = declaration i; of = of i; mode = mode i }

sign-same : (a b : ElementSign) → signs.eq-value.it a b ≡ true → a ≡ b
sign-same a b e =
    let h = both _ _ e in
    let name : a.name ≡ b.name = number-same a.name b.name h.0 in
    let pair : a.pair ≡ b.pair = pair-same a.pair b.pair h.1 in
    λ i. record { name = name i; pair = pair i }

pub signs-same : (a b : Option ElementSign) → option_eq signs.eq-value.it a b ≡ true → a ≡ b
signs-same a b e = option-same _ sign-same a b e
