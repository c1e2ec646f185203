use Rattle.std.proofs.Common.{arith, ◌≡◌, ◌+◌, ◌*◌, ◌^◌, ◌++◌, length, ap, sym, ◌∙◌}
use Rattle.dec_value.specs.Literal.{number}
use Rattle.dec_value.proofs.Numerals.{number-append, number-front}
use Rattle.dec_value.proofs.digits.magnitude_of.Goals as goal

pub returns-in_err-high : goal.returns-in_err-high
returns-in_err-high c = rw c.from_residual.ensures
    (λ low. c.in_err-high.ensures (omega (arith, number-front c.args.whole.now c.args.fraction.now)))

pub returns : goal.returns
returns c =
    let high : c.in_ok-high.high ≡ number c.args.whole.now = omega (arith, c.in_ok-high.ensures.1) in
    let joined : c.in_ok-high.high * 10 ^ length c.args.fraction.now + number c.args.fraction.now ≡ number (c.args.whole.now ++ c.args.fraction.now) =
    ap (λ h. h * 10 ^ length c.args.fraction.now + number c.args.fraction.now) high ∙ sym (number-append c.args.whole.now c.args.fraction.now) in
    rw joined at c.append_digits-2.ensures
