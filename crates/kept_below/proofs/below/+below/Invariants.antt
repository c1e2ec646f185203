use Rattle.std.proofs.Common.{◌≡◌, ℕ, ◌+◌, ◌*◌, ◌-◌, ◌≤◌, List, ◌∷◌, map, take, drop}
use Rattle.tree_rows.specs.Forest.{Forest}
use Rattle.assess_records.specs.Counts.{counts_of}
use Rattle.elem_governing.specs.declared.pairs.Governing.{Governing}
use Rattle.doc_nodes.specs.Nodes.{Has, node, depth_by}
use Rattle.doc_changes.specs.Readers.{element_numbers}
use Rattle.child_listing.specs.from_kept_state.Kept.{FitBut, IsBeside}
use Rattle.child_listing.specs.from_kept_state.Governed.{Governed}
use Rattle.child_listing.specs.Children.{AreGoverned}
use Rattle.kept_forgetting.specs.Below.{IsBelow, KeepsBut}
use Rattle.kept_below.specs.Below.{KeepsIdentity}
use Rattle.kept_below.specs.Moved.{moved, AreGivenDown}
use Rattle.kept_below.proofs.Children.{number, IsSo, record-of, left-of}
use Rattle.kept_below.proofs.Moving.{HasRoom}
use Rattle.kept_below.proofs.below.+below.Given as goal

abbrev pub decreases-settle_below : goal.decreases-settle_below
decreases-settle_below g l = 4 * (130 - depth_by (node l.doc.now l.element.now.node)) + 3

abbrev pub decreases-settle_again : goal.decreases-settle_again
decreases-settle_again g l = 4 * (130 - depth_by (node l.doc.now l.element.now.node)) + 2

abbrev pub decreases-settle_children : goal.decreases-settle_children
decreases-settle_children g l = 4 * (130 - depth_by (node l.doc.now l.parent.now.node)) + 1

abbrev pub decreases-settle_all : goal.decreases-settle_all
decreases-settle_all g l = left-of l.doc.now l.children.now

abbrev pub invariant-settle_all-loop-child : goal.invariant-settle_all-loop-child
invariant-settle_all-loop-child g l = record {
  same : l.set ≡ l.initial.set;
  beside : IsBeside l.initial.set l.doc l.kept;
  governed : (child : Governed) → Has child (take l.child-index l.children) → IsSo l.kept child;
  counts : l.counts ≡ counts_of (map (record-of l.kept) (take l.child-index l.children));
  fit : (parent : Governed) (waiting : List ℕ) → AreGoverned l.initial.set l.doc parent l.children → FitBut l.initial.set l.doc l.initial.kept (parent.node ∷ waiting) →
      FitBut l.initial.set l.doc l.kept (parent.node ∷ waiting);
  identity : KeepsIdentity l.initial.kept l.kept;
  rest : (parent : Governed) → AreGoverned l.initial.set l.doc parent l.children → KeepsBut (IsBelow l.doc parent.node) l.initial.kept l.kept;
  least : l.initial.steps ≤ l.steps;
  steps : (siblings : Forest) (governs : ℕ → Governing) → AreGivenDown l.initial.set l.doc governs siblings → element_numbers siblings ≡ map number l.children →
      ((child : Governed) → Has child l.children → governs child.node ≡ child.pair) →
      HasRoom l.initial.set l.doc l.kept.records.slots governs (map number (drop l.child-index l.children)) l.steps (l.initial.steps + 3 * moved l.initial.kept.records.slots governs siblings);
}
