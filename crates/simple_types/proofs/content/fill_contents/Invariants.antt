use Rattle.std.proofs.Common.{◌≡◌, length, take}
use Rattle.std.specs.Prelude.{All}
use Rattle.simple_types.specs.Judging.{IsContentAt}
use Rattle.simple_types.proofs.FilledLaws.{IsIn}
use Rattle.simple_types.proofs.content.fill_contents.Given as goal

abbrev pub invariant-loop-x : goal.invariant-loop-x
invariant-loop-x l = record {
  len : length l.table ≡ length l.parts.complexes.parts;
  known : All (IsIn (IsContentAt l.parts l.simples) l.parts.complexes.ranks l.table) (take l.x-index l.order);
}
