use Rattle.std.proofs.Common.{◌≡◌, ◌+◌, true, drop, subst, min, arith}
use Rattle.std.specs.List.{list_all}
use Rattle.pattern_syntax.specs.Characters.{is_ascii_digit}
use Rattle.std.specs.Str.Parse.{digits_value_after}
use Rattle.pattern_syntax.specs.Grammar.{number}
use Rattle.pattern_syntax.proofs.Choosing.{left_of, right_of}
use Rattle.pattern_syntax.proofs.Comparing.{capped, next_digit}
use Rattle.pattern_syntax.proofs.digits.bound.Goals as goal

pub digits-preserved : goal.digits-preserved
digits-preserved c =
    let next = next_digit c.args.digits.now c.digits.digit-index c.digit-item.result c.digits-test.true c.digit-item.is in
    record {
      digits = right_of (is_ascii_digit c.digit-item.result) (list_all is_ascii_digit (drop (c.digits.digit-index + 1) c.args.digits.now)) (subst (λ l. list_all is_ascii_digit l ≡ true) next c.digits.invariant.digits);
      small = rw c.min-number.ensures (omega arith);
      so_far = capped c.digits.number _ c.digit-item.result (drop (c.digits.digit-index + 1) c.args.digits.now) (min (number c.args.digits.now) 4097) (left_of (is_ascii_digit c.digit-item.result) (list_all is_ascii_digit (drop (c.digits.digit-index + 1) c.args.digits.now)) (subst (λ l. list_all is_ascii_digit l ≡ true) next c.digits.invariant.digits)) c.min-number.ensures (subst (λ l. min (digits_value_after 10 c.digits.number l) 4097 ≡ min (number c.args.digits.now) 4097) next c.digits.invariant.so_far);
    }
