use Rattle.std.proofs.Common.{◌≡◌, ℕ, ◌+◌, ◌*◌, ◌≤◌, [], drop}
use Rattle.tree_rows.specs.Forest.{Forest}
use Rattle.elem_governing.specs.declared.pairs.Governing.{Governing}
use Rattle.doc_nodes.specs.Nodes.{element_children}
use Rattle.child_lists.specs.from_kept_records.Slots.{pair_at}
use Rattle.child_lists.specs.from_kept_state.KeptChildren.{KeptChildren}
use Rattle.kept_below.specs.Below.{KeepsIdentity}
use Rattle.kept_below.specs.Moved.{moved}
use Rattle.child_lists.specs.Family.{AreCounted, AreGivenBut, IsAttributed, IsMidway}
use Rattle.kept_children.specs.Steps.{GovernsBelow, digits, marked_count, places_of, width}
use Rattle.kept_children.proofs.marked.settle_all_marked.Given as goal

-- those from this number on are to be asked again
abbrev pub invariant-loop-number : goal.invariant-loop-number
invariant-loop-number g l = record {
  same : l.set ≡ l.initial.set;
  midway : (was : KeptChildren) → IsMidway l.initial.set l.doc l.initial.kept l.parent was [] → IsMidway l.initial.set l.doc l.kept l.parent was [];
  attributed : IsAttributed l.initial.set l.doc l.kept l.parent;
  counted : AreCounted l.kept l.parent (element_children l.doc l.parent);
  given : AreGivenBut l.initial.set l.doc l.kept l.parent (drop l.number (places_of l.initial.set l.doc l.initial.kept l.parent));
  identity : KeepsIdentity l.initial.kept l.kept;
  pair : pair_at l.kept.records.slots l.parent ≡ pair_at l.initial.kept.records.slots l.parent;
  most : l.number ≤ marked_count l.initial.set l.doc l.initial.kept l.parent;
  least : l.initial.steps ≤ l.steps;
  steps : (siblings : Forest) (governs : ℕ → Governing) → GovernsBelow l.initial.set l.doc (pair_at l.initial.kept.records.slots l.parent) l.parent governs siblings →
      l.steps + 3 * moved l.kept.records.slots governs siblings ≤ l.initial.steps + (8 * digits (width l.doc l.parent) * l.number + 3 * moved l.initial.kept.records.slots governs siblings);
}
