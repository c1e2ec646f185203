use Rattle.std.proofs.Common.{◌≡◌, ℕ, List, inr, sym, ◌∙◌, subst, arith}
use Rattle.std.proofs.lemmas.Result.{on_ok_weaker}
use Rattle.doc_nodes.specs.Nodes.{Has, element_children}
use Rattle.child_lists.proofs.from_kept_forgetting.Placed.{has-at}
use Rattle.child_lists.proofs.from_kept_judging.Keeping.{both-ok}
use Rattle.kept_slots.specs.Slots.{at}
use Rattle.kept_targets.specs.Moved.{Adds, IsLookedAt as looked}
use Rattle.kept_targets.proofs.Adding.{adds-one, adds-same, adds-then, child-lower, child-root, child-there, has-pushed-last, looked-all, looked-next}
use Rattle.kept_targets.proofs.Firsts.{past-children}
use Rattle.kept_targets.proofs.Links.{child-up}
use Rattle.kept_targets.proofs.Looking.{sound}
use Rattle.kept_targets.proofs.Signs.{signs-same}
use Rattle.kept_targets.proofs.moved.+moved.Goals as goal

-- ---- an element

pub add_moved-returns-then-eq-clause-looked : goal.add_moved-returns-then-eq-clause-looked
add_moved-returns-then-eq-clause-looked t c = looked.same c.args.node (sym c.get.ensures ∙ sym c.copied-was.ensures ∙ signs-same c.copied-was.result c.sign_at-now.result (sym c.eq.ensures ∙ c.if-eq.true) ∙ c.sign_at-now.ensures)

pub add_moved-returns-then-eq-clause-adds : goal.add_moved-returns-then-eq-clause-adds
add_moved-returns-then-eq-clause-adds t c = adds-same c.args.by.now.doc.now c.args.moved.now.items (λ m. m ≡ c.args.node)

pub add_moved-add_below-requires-clause-stands : goal.add_moved-add_below-requires-clause-stands
add_moved-add_below-requires-clause-stands t c = let over = c.requires.whole.beside.over in (c.args.by.now.set.now.names, over.0, over.1.stands)

pub add_moved-returns-then-not-stays_steady-clause-looked : goal.add_moved-returns-then-not-stays_steady-clause-looked
add_moved-returns-then-not-stays_steady-clause-looked t c = on_ok_weaker c.add_below.result (looked.whole c.args.node) c.add_below.ensures.all

pub add_moved-add_children-requires : goal.add_moved-add_children-requires
add_moved-add_children-requires t c = (omega (arith, c.decreases), (c.requires.whole, c.requires.element))

pub add_moved-returns-clause-looked : goal.add_moved-returns-clause-looked
add_moved-returns-clause-looked t c =
    let steady = c.stays_steady.ensures c.if-not-stays_steady.false in
    let pushed = subst (Has c.args.node) (sym {A = List ℕ} c.in_ok-push.ensures.items) (has-pushed-last c.args.node c.args.moved.now.items) in
    both-ok c.add_children.result (λ children adds. looked.steady c.args.node steady.old steady.new (adds.still c.args.node pushed) steady.before steady.after steady.steady children) c.add_children.ensures.looked
    c.add_children.ensures.adds

pub add_moved-returns-clause-adds : goal.add_moved-returns-clause-adds
add_moved-returns-clause-adds t c =
    let by = c.args.by.now in
    let ns = by.doc.now in
    let n = c.args.node in
    let xs = c.args.moved.now.items in
    let pushed = subst (Has n) (sym {A = List ℕ} c.in_ok-push.ensures.items) (has-pushed-last n xs) in
    let first = subst (λ (ys : List ℕ). Adds ns xs ys (λ m. m ≡ n)) (sym {A = List ℕ} c.in_ok-push.ensures.items) (adds-one ns xs n c.requires.element) in
    on_ok_weaker c.add_children.result (λ adds.
    adds-then ns xs c.push.new.self.items c.add_children.new.moved.items (λ m. m ≡ n) (λ m. Has m (element_children ns n)) first adds
    (λ m h. inr (n, (child-up ns (sound by.set.now ns by.state.now c.requires.whole) n m h).0, pushed))) c.add_children.ensures.adds

-- ---- child elements

pub add_children-loop-place-init : goal.add_children-loop-place-init
add_children-loop-place-init t c = record {
  done = λ i child l e. absurd (omega (arith, l));
  adds = adds-same c.args.by.now.doc.now c.args.moved.now.items (λ m. Has m (element_children c.args.by.now.doc.now c.args.parent));
}

pub add_children-add_moved-requires : goal.add_children-add_moved-requires
add_children-add_moved-requires t c =
    let by = c.args.by.now in
    let over = c.requires.whole.beside.over in
    let there = sym c.in-Some.ensures.element in
    let low = child-lower by.set.now.names by.doc.now over.0 over.1.stands c.args.parent c.requires.element c.loop-place.place c.in-Some.child there in
    (omega (arith, c.decreases, low), (c.requires.whole, (child-there by.set.now.names by.doc.now over.0 over.1.stands c.args.parent c.requires.element c.loop-place.place c.in-Some.child there).1))

pub add_children-loop-place-preserved : goal.add_children-loop-place-preserved
add_children-loop-place-preserved t c =
    let by = c.args.by.now in
    let ns = by.doc.now in
    let n = c.args.parent in
    let place = c.loop-place.place in
    let child = c.in-Some.child in
    let there = sym c.in-Some.ensures.element in
    let old = c.loop-place.moved.items in
    let new = c.add_moved.new.moved.items in
    let done = c.in_ok-add_moved.ensures in
    let inv = c.loop-place.invariant in
    record {
      done = looked-next by.set.now.parts ns by.state.now.records.slots (at c.args.keys.now.signs) n place child old new there done.adds.still done.looked inv.done;
      adds = adds-then ns c.args.moved.now.items old new (λ m. Has m (element_children ns n)) (λ m. m ≡ child) inv.adds done.adds (child-root ns n child old (has-at (element_children ns n) place child there));
    }

pub add_children-returns-in_default-clause-looked : goal.add_children-returns-in_default-clause-looked
add_children-returns-in_default-clause-looked t c =
    let by = c.args.by.now in
    looked-all by.set.now.parts by.doc.now by.state.now.records.slots (at c.args.keys.now.signs) c.args.parent c.loop-place.place c.loop-place.moved.items (sym c.in_default.ensures.element) c.loop-place.invariant.done

pub add_children-returns-in_default-clause-adds : goal.add_children-returns-in_default-clause-adds
add_children-returns-in_default-clause-adds t c = c.loop-place.invariant.adds

pub add_children-returns-clause-looked : goal.add_children-returns-clause-looked
add_children-returns-clause-looked t c =
    let by = c.args.by.now in
    let count = c.child_count-place-end.ensures.count in
    let ended = past-children by.doc.now c.args.parent c.loop-place.place (omega (arith, count, c.loop-place-test.false)) in
    looked-all by.set.now.parts by.doc.now by.state.now.records.slots (at c.args.keys.now.signs) c.args.parent c.loop-place.place c.loop-place.moved.items ended c.loop-place.invariant.done

pub add_children-returns-clause-adds : goal.add_children-returns-clause-adds
add_children-returns-clause-adds t c = c.loop-place.invariant.adds
