use Rattle.std.proofs.Common.{◌≡◌, ◌<◌, drop}
use Rattle.facet_checks.specs.inside.Buckets.{text_number}
use Rattle.facet_checks.proofs.values.text_number.Given as goal

abbrev pub invariant-loop-byte : goal.invariant-loop-byte
invariant-loop-byte l = record {
  small : l.number < 4_294_967_291;
  rest : text_number l.number (drop l.byte-index l.text) ≡ text_number 0 l.text;
}
