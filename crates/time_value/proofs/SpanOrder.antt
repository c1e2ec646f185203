-- A duration that is shorter than another is not longer, nor the same.
use Rattle.std.proofs.Common.{◌≡◌, Bool, true, false, ◌&&◌, ℤ, refl, arith}
use Rattle.std.specs.Prelude.{int_lt}
use Rattle.jiff_core.proofs.SignedLemmas.{signed_arith}
use Rattle.time_value.specs.declared.reference.Reference.TheVariants.{September1696}
use Rattle.time_value.specs.Span.{SpanValue, is_shorter, moment_after}

first_of_both : (a b : Bool) → a && b ≡ true → a ≡ true
first_of_both true b e = refl
first_of_both false b e = absurd (cc)

false_first : (a b : Bool) → a ≡ false → a && b ≡ false
false_first a b e = rw e refl

int_lt-flip : (a b : ℤ) → int_lt a b ≡ true → int_lt b a ≡ false
int_lt-flip a b e = grind (arith, signed_arith)

int_lt-same : (a : ℤ) → int_lt a a ≡ false
int_lt-same a = grind (arith, signed_arith)

pub never_both_shorter : (x y : SpanValue) → is_shorter x y ≡ true → is_shorter y x ≡ false
unfolding is_shorter
never_both_shorter x y e =
    false_first _ _ (int_lt-flip (moment_after September1696 x) (moment_after September1696 y) (first_of_both _ _ e))

pub never_shorter_than_itself : (x : SpanValue) → is_shorter x x ≡ false
unfolding is_shorter
never_shorter_than_itself x = false_first _ _ (int_lt-same (moment_after September1696 x))
