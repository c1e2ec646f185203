use Rattle.std.proofs.Common.{◌≡◌, drop}
use Rattle.schema_faults.specs.ShapeFaults.{rule_of}
use Rattle.schema_faults.proofs.shape_faults.rule_of.Given as goal

abbrev pub invariant-loop-rule : goal.invariant-loop-rule
invariant-loop-rule l = rule_of (drop l.rule-index l.rules) l.attribute ≡ rule_of l.rules l.attribute
