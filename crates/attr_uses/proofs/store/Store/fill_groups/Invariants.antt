use Rattle.std.proofs.Common.{◌≡◌, length, take}
use Rattle.std.specs.Prelude.{All}
use Rattle.attr_uses.specs.inside.Kept.{Keeps, IsGroupAnswer}
use Rattle.attr_uses.proofs.store.Store.fill_groups.Given as goal

abbrev pub invariant-loop-x : goal.invariant-loop-x
invariant-loop-x l = record {
  keeps : Keeps l.initial.self l.self;
  len : length l.groups ≡ length l.parts.attr_groups.parts;
  known : All (IsGroupAnswer l.parts l.ids l.self l.groups) (take l.x-index l.order);
}
