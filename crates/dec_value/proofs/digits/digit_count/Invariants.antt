use Rattle.std.proofs.Common.{◌≡◌, ◌+◌, ◌≤◌}
use Rattle.dec_value.specs.Decimal.{digit_count}
use Rattle.dec_value.proofs.digits.digit_count.Given as goal

abbrev pub invariant-tens : goal.invariant-tens
invariant-tens l = record {
  so_far : l.count + digit_count l.rest ≡ digit_count l.number + 1;
  few : digit_count l.number ≤ 38;
}

abbrev pub decreases-tens : goal.decreases-tens
decreases-tens l = l.rest
