use Rattle.std.proofs.Common.{◌≡◌, ◌≤◌, min, drop}
use Rattle.std.specs.List.{list_all}
use Rattle.schema_values.specs.Values.{is_digit, number_from}
use Rattle.schema_values.proofs.values.digits_of.Given as goal

abbrev pub invariant-loop-b : goal.invariant-loop-b
invariant-loop-b l = record {
  small : l.number ≤ 4294967296;
  digits : list_all is_digit (drop l.b-index l.bytes) ≡ list_all is_digit l.bytes;
  same : min 4294967296 (number_from l.number (drop l.b-index l.bytes)) ≡ min 4294967296 (number_from 0 l.bytes);
}
