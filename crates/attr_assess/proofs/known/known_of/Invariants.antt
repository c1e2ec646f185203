use Rattle.std.proofs.Common.{◌≡◌, length}
use Rattle.attr_assess.specs.Known.{AreKnownOf}
use Rattle.attr_assess.proofs.known.known_of.Given as goal

abbrev pub invariant-loop-number : goal.invariant-loop-number
invariant-loop-number l = record {
  known : AreKnownOf l.parts l.in_types l.known;
  long : length l.known ≡ l.number;
  same : l.types ≡ l.fn.types;
}
