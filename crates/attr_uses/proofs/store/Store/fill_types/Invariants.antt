use Rattle.std.proofs.Common.{◌≡◌, length, take}
use Rattle.std.specs.Prelude.{All}
use Rattle.attr_uses.specs.inside.Kept.{Keeps, IsTypeAnswer}
use Rattle.attr_uses.proofs.store.Store.fill_types.Given as goal

abbrev pub invariant-loop-x : goal.invariant-loop-x
invariant-loop-x l = record {
  keeps : Keeps l.initial.self l.self;
  len : length l.types ≡ length l.parts.complexes.parts;
  known : All (IsTypeAnswer l.parts l.ids l.self l.types) (take l.x-index l.order);
}
