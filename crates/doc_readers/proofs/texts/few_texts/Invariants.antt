use Rattle.std.proofs.Common.{◌≡◌, ◌≤◌, ◌-◌, take, string_bytes}
use Rattle.std.specs.List.{flat_map}
use Rattle.doc_nodes.specs.Nodes.{node, children_by}
use Rattle.doc_changes.specs.Readers.{chars_at}
use Rattle.doc_readers.proofs.texts.few_texts.Given as goal

abbrev pub invariant-texts : goal.invariant-texts
invariant-texts l = record {
  within : l.from ≤ l.count;
  so_far : string_bytes l.chars ≡ flat_map (chars_at l.doc) (take l.from (children_by (node l.doc l.node)));
}

abbrev pub decreases-texts : goal.decreases-texts
decreases-texts l = l.count - l.from
