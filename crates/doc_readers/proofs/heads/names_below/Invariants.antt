use Rattle.std.proofs.Common.{◌≡◌, map, take}
use Rattle.std.specs.Prelude.{filter}
use Rattle.doc_nodes.specs.Nodes.{is_element_at}
use Rattle.doc_changes.specs.Readers.{name_at}
use Rattle.doc_readers.proofs.heads.names_below.Given as goal

abbrev pub invariant-loop-child : goal.invariant-loop-child
invariant-loop-child l = l.names.items ≡ map (name_at l.doc) (filter (is_element_at l.doc) (take l.child-index l.child-items))
