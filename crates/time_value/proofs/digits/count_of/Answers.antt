use Rattle.std.proofs.Common.{◌≡◌, ◌+◌, refl, nat_le, false, sym, lit≤, arith}
use Rattle.std.proofs.lemmas.Bool.Decides.{nat_tests}
use Rattle.std.proofs.lemmas.Str.Parse.{digits_value-take-le}
use Rattle.time_value.specs.Digits.{number, count_of}
use Rattle.time_value.proofs.Numbers.{number-nil, number-more}
use Rattle.time_value.proofs.digits.count_of.Goals as goal

pub digits-init : goal.digits-init
digits-init c = (sym number-nil, omega arith)

pub returns-then-number-gt-MOST_SECONDS : goal.returns-then-number-gt-MOST_SECONDS
unfolding count_of
returns-then-number-gt-MOST_SECONDS c =
    let digits = c.args.digits.now in
    let i = c.digits.digit-index in
    let over : nat_le (number digits) 126_230_400_000 ≡ false = grind (arith, nat_tests, number-more digits i c.requires c.digits-test.true, digits_value-take-le 10 digits (i + 1) (lit≤ tt)) in
    rw over (record { value = refl })

pub digits-preserved : goal.digits-preserved
digits-preserved c =
    let more = number-more c.args.digits.now c.digits.digit-index c.requires c.digits-test.true in
    (omega (arith, more), omega arith)
