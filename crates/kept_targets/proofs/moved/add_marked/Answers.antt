use Rattle.std.proofs.Common.{◌≡◌, arith}
use Rattle.std.proofs.lemmas.Option.{slice_get_past}
use Rattle.doc_nodes.specs.Nodes.{Has, element_children}
use Rattle.child_lists.proofs.from_kept_forgetting.Placed.{has-at}
use Rattle.kept_slots.specs.Slots.{at}
use Rattle.kept_targets.specs.Moved.{marks}
use Rattle.kept_targets.proofs.Adding.{adds-same, adds-then, child-root, child-there}
use Rattle.kept_targets.proofs.Marking.{few-marks, marked-all, marked-next}
use Rattle.kept_targets.proofs.moved.add_marked.Goals as goal

pub loop-number-init : goal.loop-number-init
loop-number-init c = record {
  done = λ i place child l e f off. absurd (omega (arith, l));
  adds = adds-same c.args.by.now.doc.now c.args.moved.now.items (λ m. Has m (element_children c.args.by.now.doc.now c.args.parent));
}

pub add_other-requires-clause-element : goal.add_other-requires-clause-element
add_other-requires-clause-element c =
    let by = c.args.by.now in
    let over = c.requires.whole.beside.over in
    let found = c.in-Some.ensures in
    (child-there by.set.now.names by.doc.now over.0 over.1.stands c.args.parent c.requires.element found.0 c.in-Some.child found.2).1

pub loop-number-preserved : goal.loop-number-preserved
loop-number-preserved c =
    let by = c.args.by.now in
    let ns = by.doc.now in
    let n = c.args.parent in
    let child = c.in-Some.child in
    let found = c.in-Some.ensures in
    let old = c.loop-number.moved.items in
    let new = c.add_other.new.moved.items in
    let done = c.in_ok-add_other.ensures in
    let inv = c.loop-number.invariant in
    record {
      done = marked-next by.set.now ns by.state.now (at c.args.keys.now.signs) n c.args.but c.loop-number.number found.0 child old new found.1 found.2 done.adds.still done.looked inv.done;
      adds = adds-then ns c.args.moved.now.items old new (λ m. Has m (element_children ns n)) (λ m. m ≡ child) inv.adds done.adds (child-root ns n child old (has-at (element_children ns n) found.0 child found.2));
    }

pub returns-in_default-clause-looked : goal.returns-in_default-clause-looked
returns-in_default-clause-looked c =
    let by = c.args.by.now in
    marked-all by.set.now by.doc.now by.state.now (at c.args.keys.now.signs) c.args.parent c.args.but c.loop-number.number c.loop-number.moved.items c.in_default.ensures c.loop-number.invariant.done

pub returns-in_default-clause-adds : goal.returns-in_default-clause-adds
returns-in_default-clause-adds c = c.loop-number.invariant.adds

pub returns-clause-looked : goal.returns-clause-looked
returns-clause-looked c =
    let by = c.args.by.now in
    let count = c.child_count-number-end.ensures.count in
    let few = few-marks by.set.now by.doc.now by.state.now c.args.parent in
    marked-all by.set.now by.doc.now by.state.now (at c.args.keys.now.signs) c.args.parent c.args.but c.loop-number.number c.loop-number.moved.items
    (slice_get_past (marks by.set.now by.doc.now by.state.now c.args.parent) c.loop-number.number (omega (arith, few, count, c.loop-number-test.false))) c.loop-number.invariant.done

pub returns-clause-adds : goal.returns-clause-adds
returns-clause-adds c = c.loop-number.invariant.adds
