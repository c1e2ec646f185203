use Rattle.std.proofs.Common.{◌≡◌, ◌<◌, ◌≤◌, true, false, take, length}
use Rattle.std.specs.Prelude.{All}
use Rattle.type_derivation.specs.inside.Kinds.{IsSound, LacksAt, unknown}
use Rattle.type_derivation.proofs.rounds.round.Given as goal

abbrev pub invariant-loop-x : goal.invariant-loop-x
invariant-loop-x l = record {
  len : length l.known ≡ length l.parts.complexes.parts;
  sound : IsSound l.parts l.known;
  lacks : l.found ≡ false → All (LacksAt l.parts l.known) (take l.x-index l.order);
  fewer : l.found ≡ true → unknown l.known < unknown l.initial.known;
  most : unknown l.known ≤ unknown l.initial.known;
}
