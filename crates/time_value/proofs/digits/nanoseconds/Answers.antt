use Rattle.std.proofs.Common.{◌≡◌, ◌∙◌, ap, sym, Some, drop, true}
use Rattle.std.specs.List.{list_all}
use Rattle.std.specs.Prelude.{◌==◌}
use Rattle.time_value.specs.Digits.{nanoseconds, decimal_places}
use Rattle.time_value.proofs.Numbers.{take-cut, drop-cut}
use Rattle.time_value.proofs.digits.nanoseconds.Goals as goal

pub returns-then-are_zeros-clause-value : goal.returns-then-are_zeros-clause-value
unfolding nanoseconds
returns-then-are_zeros-clause-value c =
    let digits = c.args.digits.now in
    let past = c.split_at.ensures.back ∙ drop-cut digits 9 c.min.result c.min.ensures in
    let places = c.split_at.ensures.front ∙ take-cut digits 9 c.min.result c.min.ensures in
    let zeros : list_all (λ digit. digit == 48) (drop 9 digits) ≡ true = rw (← past) (sym c.are_zeros.ensures ∙ c.if-are_zeros.true) in
    let value = c.decimal_places.ensures.value ∙ ap decimal_places places in
    rw zeros (ap Some value)
