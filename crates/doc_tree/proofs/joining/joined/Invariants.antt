use Rattle.std.proofs.Common.{◌≡◌, take, string_bytes}
use Rattle.std.specs.List.{flat_map}
use Rattle.doc_changes.specs.Readers.{chars_at}
use Rattle.doc_tree.proofs.joining.joined.Given as goal

abbrev pub invariant-loop-node : goal.invariant-loop-node
invariant-loop-node l = string_bytes l.chars ≡ flat_map (chars_at l.links) (take l.node-index l.nodes)
