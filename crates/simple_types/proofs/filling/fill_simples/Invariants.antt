use Rattle.std.proofs.Common.{◌≡◌, length, take}
use Rattle.std.specs.Prelude.{All}
use Rattle.simple_types.specs.Judging.{IsSimpleAt}
use Rattle.simple_types.proofs.FilledLaws.{IsIn}
use Rattle.simple_types.proofs.filling.fill_simples.Given as goal

abbrev pub invariant-loop-x : goal.invariant-loop-x
invariant-loop-x l = record {
  len : length l.table ≡ length l.parts.simples.parts;
  known : All (IsIn (IsSimpleAt l.parts) l.parts.simples.ranks l.table) (take l.x-index l.order);
}
