use Rattle.std.proofs.Common.{◌-◌, length, drop, take, ap, ◌∙◌, w16, arith}
use Rattle.std.proofs.lemmas.Int.{to_z_pos}
use Rattle.std.proofs.lemmas.List.{take_all}
use Rattle.std.proofs.Common.{length-drop}
use Rattle.jiff_core.specs.Calendar.{is_leap_year}
use Rattle.time_value.specs.Digits.{number}
use Rattle.time_value.proofs.Numbers.{number-last_four, is_leap_year-last_four}
use Rattle.time_value.proofs.literal.is_leap.Goals as goal

pub returns : goal.returns
returns c =
    let digits = c.args.digits.now in
    let front = length digits - 4 in
    let read = c.year_number-year.ensures.value ∙ ap number (take_all (length digits - front) (drop front digits) (omega (arith, length-drop front digits))) in
    let same = c.is_leap_year.ensures ∙ ap is_leap_year (to_z_pos w16 c.year_number-year.result (omega (arith, c.year_number-year.ensures.bound))) in
    same ∙ is_leap_year-last_four (number digits) (number (take front digits)) c.year_number-year.result (number-last_four digits c.requires.long ∙ omega (arith, read))
