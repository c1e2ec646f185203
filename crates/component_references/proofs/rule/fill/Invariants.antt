use Rattle.std.proofs.Common.{◌≡◌, length, take}
use Rattle.std.specs.Prelude.{All}
use Rattle.component_references.proofs.OrderLaws.{IsIn}
use Rattle.component_references.proofs.rule.fill.Given as goal

abbrev pub invariant-loop-x : goal.invariant-loop-x
invariant-loop-x g l = record {
  len : length l.table ≡ g.R.Rule.count l.rule;
  known : All (IsIn (g.R.Rule.value_of l.rule) l.table) (take l.x-index l.order);
}
