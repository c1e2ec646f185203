use Rattle.std.proofs.Common.{◌≡◌, ◌<◌, ◌≤◌, ◌-◌, length}
use Rattle.doc_nodes.specs.Nodes.{node, children_by}
use Rattle.doc_readers.specs.Texts.{texts_upto}
use Rattle.doc_readers.proofs.texts.next_text.Given as goal

-- no text stands before `low`, and one before `high`
abbrev pub invariant-halves : goal.invariant-halves
invariant-halves l = record {
  past : l.from ≤ l.low;
  apart : l.low < l.high;
  within : l.high ≤ length (children_by (node l.doc l.node));
  none : texts_upto l.doc l.node l.low ≡ texts_upto l.doc l.node l.from;
  some : texts_upto l.doc l.node l.high ≡ texts_upto l.doc l.node l.from → ⊥;
}

abbrev pub decreases-halves : goal.decreases-halves
decreases-halves l = l.high - l.low
