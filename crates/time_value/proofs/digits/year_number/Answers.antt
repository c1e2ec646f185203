use Rattle.std.proofs.Common.{◌≡◌, sym, ap, take, arith}
use Rattle.std.proofs.lemmas.List.{take_all}
use Rattle.time_value.specs.Digits.{number}
use Rattle.time_value.proofs.Numbers.{number-nil, number-more, number-take-bound, number-bound-four, digit_worth}
use Rattle.time_value.proofs.digits.year_number.Goals as goal

pub digits-init : goal.digits-init
digits-init c = sym number-nil

pub overflow_mul-number : goal.overflow_mul-number
overflow_mul-number c =
    let below = number-take-bound c.args.digits.now c.digits.digit-index c.requires.digits c.requires.short c.digits-test.true in
    omega (arith, below)

pub overflow_add-number : goal.overflow_add-number
overflow_add-number c =
    let below = number-take-bound c.args.digits.now c.digits.digit-index c.requires.digits c.requires.short c.digits-test.true in
    let worth = digit_worth c.args.digits.now c.digits.digit-index c.requires.digits c.digits-test.true in
    omega (arith, below, worth)

pub digits-preserved : goal.digits-preserved
digits-preserved c =
    omega (arith, number-more c.args.digits.now c.digits.digit-index c.requires.digits c.digits-test.true)

pub returns-clause-bound : goal.returns-clause-bound
returns-clause-bound c =
    let all : take c.digits.digit-index c.args.digits.now ≡ c.args.digits.now = take_all _ _ (omega arith) in
    omega (arith, ap number all, number-bound-four c.args.digits.now c.requires.digits c.requires.short)
