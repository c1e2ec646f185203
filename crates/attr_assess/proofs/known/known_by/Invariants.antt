use Rattle.std.proofs.Common.{◌≡◌, ◌-◌, length}
use Rattle.attr_uses.specs.Written.{own_parts}
use Rattle.attr_assess.specs.Known.{AreKnownIn}
use Rattle.attr_assess.proofs.known.known_by.Given as goal

abbrev pub invariant-uses : goal.invariant-uses
invariant-uses l = record {
  known : AreKnownIn l.parts l.holder l.known;
  same : l.types ≡ l.fn.types;
}

abbrev pub decreases-uses : goal.decreases-uses
decreases-uses l = length (own_parts l.parts l.holder).uses - length l.known
