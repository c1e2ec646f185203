use Rattle.std.proofs.Common.{◌≡◌, map, take}
use Rattle.doc_changes.specs.Stands.{attribute_of}
use Rattle.doc_tree.proofs.names.read_attributes.Given as goal

abbrev pub invariant-loop-attribute : goal.invariant-loop-attribute
invariant-loop-attribute l = l.read ≡ map (attribute_of l.names) (take l.attribute-index l.attributes)
