use Rattle.std.proofs.Common.{◌≡◌, drop}
use Rattle.xs_names.specs.Names.{Grown, IsSound}
use Rattle.plain_tree.specs.Table.{with_attributes}
use Rattle.plain_tree.proofs.naming.add_attributes.Given as goal

abbrev pub invariant-loop-attribute : goal.invariant-loop-attribute
invariant-loop-attribute l = record {
  table : with_attributes l.names (drop l.attribute-index l.attributes) ≡ with_attributes l.initial.names l.attributes;
  grown : Grown l.initial.names l.names;
  sound : IsSound l.names;
}
