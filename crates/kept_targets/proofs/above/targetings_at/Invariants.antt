use Rattle.std.proofs.Common.{◌≡◌, ◌<◌, ℕ, All, List, Some, length, map, true}
use Rattle.identity_constraints.specs.Seen.{KeyElement, KeyForest, element}
use Rattle.scope_targets.specs.Found.{targeting_of}
use Rattle.scope_targets.specs.Kin.{AreAbove}
use Rattle.doc_nodes.specs.Nodes.{is_element_at}
use Rattle.kept_targets.specs.Kept.{kin_of}
use Rattle.kept_targets.specs.Seen.{siblings_of}
use Rattle.kept_targets.proofs.Touching.{IsFoundUpTo, level}
use Rattle.kept_targets.proofs.above.targetings_at.Given as goal

abbrev pub invariant-up : goal.invariant-up
invariant-up l = record {
  there : (p : ℕ) → l.next ≡ Some p → is_element_at l.by.doc.now p ≡ true;
  ways : All (λ name. name < length l.set.names.now.names) l.way.items;
  so_far : (own : KeyElement) (below behind : KeyForest) → siblings_of l.target ≡ element own below behind → (all : List KeyElement) → AreAbove (kin_of l.by.doc.now l.by.state.now.records.slots) (Some l.node) all
      → IsFoundUpTo l.set.names.now l.set.parts.now l.set.identities.now (kin_of l.by.doc.now l.by.state.now.records.slots) own below all l.next l.way.items (map targeting_of l.found.items);
}

abbrev pub decreases-up : goal.decreases-up
decreases-up l = level l.by.doc.now l.next
