use Rattle.std.proofs.Common.{◌≡◌, suc, ◌/◌, ◌+◌, ◌-◌, ◌*◌, ◌^◌, ◌≤◌, get_or, take, length, ap, ◌∙◌, arith}
use Rattle.std.proofs.lemmas.List.{take_all}
use Rattle.std.proofs.Math.Nat.{mul-le-mul_right, one-le-pow}
use Rattle.time_value.specs.Digits.{number, decimal_places}
use Rattle.time_value.proofs.Numbers.{number-more, tenth, digit_worth}
use Rattle.time_value.proofs.digits.decimal_places.Goals as goal

pub digits-preserved : goal.digits-preserved
digits-preserved c =
    let l = c.digits in
    let ds = c.args.digits.now in
    let i = l.digit-index in
    let j = 9 - (i + 1) in
    let next : 9 - i ≡ suc j = omega arith in
    let power = 10 ^ j in
    let ten = tenth _ j next in
    let place : l.place / 10 ≡ power = omega (arith, ten) in
    let digit = get_or ds i 0 - 48 in
    let worth = (digit_worth ds i c.requires.digits c.digits-test.true).1 in
    let high : digit * (l.place / 10) ≤ 9 * (l.place / 10) = mul-le-mul_right _ worth in
    let same : digit * (l.place / 10) ≡ digit * power = rw place in
    let before = number (take i ds) in
    let value : l.nanosecond ≡ before * (10 * power) = c.digits.invariant.3 ∙ ap (λ p. before * p) ten in
    let more : number (take (i + 1) ds) * power ≡ (before * 10 + digit) * power = ap (λ n. n * power) (number-more ds i c.requires.digits c.digits-test.true) in
    (omega arith, place, omega arith, omega (arith, value, more, same))

pub returns-clause-value : goal.returns-clause-value
unfolding decimal_places
returns-clause-value c =
    let l = c.digits in
    let ds = c.args.digits.now in
    let end : l.digit-index ≡ length ds = omega arith in
    let all : take l.digit-index ds ≡ ds = take_all _ _ (omega arith) in
    c.digits.invariant.3 ∙ ap (λ xs. number xs * 10 ^ (9 - l.digit-index)) all ∙ ap (λ k. number ds * 10 ^ (9 - k)) end

pub returns-clause-bound : goal.returns-clause-bound
returns-clause-bound c = omega (arith, one-le-pow (9 - c.digits.digit-index) 10 (omega arith))
