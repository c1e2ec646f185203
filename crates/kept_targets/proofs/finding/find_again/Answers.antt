use Rattle.std.proofs.Common.{get_or, refl, ◌∙◌}
use Rattle.kept_targets.specs.Kept.{IsTargetOf}
use Rattle.kept_targets.proofs.Among.{has-get}
use Rattle.kept_targets.proofs.Counts.{can-keep, counting-still, finds-all, finds-next, finds-none, target-goes}
use Rattle.kept_targets.proofs.finding.find_again.Goals as goal

pub loop-node-init : goal.loop-node-init
loop-node-init c =
    let by = c.args.by.now in
    record {
      counting = c.requires.counting;
      finds = finds-none (IsTargetOf by.set.now by.doc.now by.state.now.records.slots) c.args.keys.now;
    }

pub take_targets-requires : goal.take_targets-requires
take_targets-requires c = record { kept = can-keep c.loop-node.keys.counted c.loop-node.invariant.counting }

pub targetings_at-requires-clause-element : goal.targetings_at-requires-clause-element
targetings_at-requires-clause-element c = c.requires.elements (get_or c.args.nodes.now c.loop-node.node-index 0) (has-get c.args.nodes.now c.loop-node.node-index c.loop-node-test.true)

pub put_targets-requires-clause-kept : goal.put_targets-requires-clause-kept
put_targets-requires-clause-kept c =
    let taken = c.in_ok-take_targets.ensures in
    can-keep c.take_targets.new.self (counting-still c.loop-node.keys.counted c.take_targets.new.self taken.taken.parents taken.kept c.loop-node.invariant.counting)

pub put_targets-requires-clause-none : goal.put_targets-requires-clause-none
put_targets-requires-clause-none c = c.in_ok-take_targets.ensures.taken.here

pub loop-node-preserved : goal.loop-node-preserved
loop-node-preserved c =
    let by = c.args.by.now in
    let is_target = IsTargetOf by.set.now by.doc.now by.state.now.records.slots in
    let old = c.loop-node.keys in
    let mid = c.take_targets.new.self in
    let new = c.put_targets.new.self in
    let taken = c.in_ok-take_targets.ensures in
    let put = c.in_ok-put_targets.ensures in
    let inv = c.loop-node.invariant in
    record {
      counting = counting-still mid new put.put.parents put.kept (counting-still old.counted mid taken.taken.parents taken.kept inv.counting);
      finds = finds-next is_target (target-goes by.set.now by.doc.now by.state.now.records.slots) c.args.keys.now old (record old { counted = new }) c.args.nodes.now c.loop-node.node-index c.loop-node-test.true inv.finds
          (λ above below is_above is_below. put.put.here ∙ c.in_ok-found.ensures above below is_above is_below)
          (λ m off. put.put.others m off ∙ taken.taken.others m off) (put.put.parents ∙ taken.taken.parents) refl (put.put.references ∙ taken.taken.references);
    }

pub returns-clause-counting : goal.returns-clause-counting
returns-clause-counting c = c.loop-node.invariant.counting

pub returns-clause-finds : goal.returns-clause-finds
returns-clause-finds c =
    let by = c.args.by.now in
    finds-all (IsTargetOf by.set.now by.doc.now by.state.now.records.slots) c.args.keys.now c.loop-node.keys c.args.nodes.now c.loop-node.node-index c.loop-node-test.false c.loop-node.invariant.finds
