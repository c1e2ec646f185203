use Rattle.std.proofs.Common.{◌≡◌, length}
use Rattle.type_derivation.specs.inside.Kinds.{IsSound, unknown}
use Rattle.type_derivation.proofs.rounds.rounds.Given as goal

abbrev pub invariant-round : goal.invariant-round
invariant-round l = record {
  len : length l.known ≡ length l.parts.complexes.parts;
  sound : IsSound l.parts l.known;
}

abbrev pub decreases-round : goal.decreases-round
decreases-round l = unknown l.known
