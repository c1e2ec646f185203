use Rattle.std.proofs.Common.{◌≡◌, take}
use Rattle.doc_nodes.specs.Linked.{entries, numbers}
use Rattle.doc_nodes.proofs.links.children_in.Given as goal

abbrev pub invariant-loop-item : goal.invariant-loop-item
invariant-loop-item l = l.children.items ≡ take l.item-index (numbers (entries l.lists l.fn.list))
