use Rattle.dec_value.proofs.Arithmetic.{ten_fits_signed, within, past_below, past_above}
use Rattle.dec_value.proofs.decimal.compare_shifted.Goals as goal

pub overflow_cast-power_of_ten : goal.overflow_cast-power_of_ten
overflow_cast-power_of_ten c = rw c.power_of_ten.ensures (ten_fits_signed c.args.places c.requires)

pub returns-in-Some : goal.returns-in-Some
returns-in-Some c =
    within _ _ _ _ c.ranges.number c.ranges.other c.power_of_ten.ensures c.requires _ _ c.in-Some.ensures c.cmp.ensures

pub returns-in-None : goal.returns-in-None
returns-in-None c =
    past_below _ _ _ _ c.ranges.number c.ranges.other c.power_of_ten.ensures c.requires c.in-None.ensures c.if-number-lt0.true

pub returns-in-None-2 : goal.returns-in-None-2
returns-in-None-2 c =
    past_above _ _ _ _ c.ranges.number c.ranges.other c.power_of_ten.ensures c.requires c.in-None.ensures c.if-number-lt0.false
