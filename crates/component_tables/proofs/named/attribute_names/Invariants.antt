use Rattle.std.proofs.Common.{◌≡◌, map, take}
use Rattle.component_tables.specs.Named.{top_name}
use Rattle.component_tables.proofs.named.attribute_names.Given as goal

abbrev pub invariant-loop-part : goal.invariant-loop-part
invariant-loop-part l = l.names ≡ map top_name (take l.part-index l.part-items)
