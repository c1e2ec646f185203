use Rattle.std.proofs.Common.{◌+◌, List, length, sym, ap, ◌∙◌, subst, refl, arith}
use Rattle.std.proofs.lemmas.List.{length-drop}
use Rattle.xs_names.specs.Names.{NameTable}
use Rattle.tree_rows.specs.Forest.{Forest, count}
use Rattle.doc_nodes.specs.Nodes.{Nodes, children_by}
use Rattle.doc_nodes.specs.declared.content.Content.TheVariants as contents
use Rattle.doc_changes.specs.inside.Growing.{PlantedFirst, at_end}
use Rattle.doc_changes.proofs.Placing.{on_err}
use Rattle.doc_changes.proofs.Pruning.{over, below_parent, pruned}
use Rattle.doc_tree.specs.inside.Putting.{Holds, PutSoFar}
use Rattle.doc_tree.specs.declared.part.PartRow.{PartRow}
use Rattle.doc_tree.proofs.RowsPut.{begun, ended, first, next, holds_next, within, room, next_so, count_one, free, text_put, text_count, own, can_whole, element_count, holds_below, element_put}
use Rattle.doc_tree.proofs.InverseRows.{some_row}
use Rattle.doc_tree.proofs.putting.+put.Goals as goal

pub put_all-left-init : goal.put_all-left-init
put_all-left-init t c = (omega arith, λ u f end h. begun u c.args.links.now c.args.parent c.args.depth c.args.rows.now f end h)

pub put_all-returns-clause-planted : goal.put_all-returns-clause-planted
put_all-returns-clause-planted t c = λ u f end h.
    (ended u c.args.links.now c.left.links c.args.parent c.args.depth c.left.left.now f end c.left.done c.args.rows.now h (c.left.invariant.1 u f end h) (sym c.begins_at.ensures ∙ c.left-test.false)).0

pub put_all-returns-clause-count : goal.put_all-returns-clause-count
put_all-returns-clause-count t c = λ u f end h.
    (ended u c.args.links.now c.left.links c.args.parent c.args.depth c.left.left.now f end c.left.done c.args.rows.now h (c.left.invariant.1 u f end h) (sym c.begins_at.ensures ∙ c.left-test.false)).1

pub put_all-put_one-requires : goal.put_all-put_one-requires
put_all-put_one-requires t c =
    let q = c.requires.holds in let so = c.left.invariant.1 q.0 q.1 q.2 q.3 in let more = sym c.begins_at.ensures ∙ c.left-test.true in
    let n = next q.0 c.args.links.now c.left.links c.args.parent c.args.depth c.left.left.now q.1 q.2 c.left.done c.args.rows.now q.3 so more in
    let place = c.child_count-place.ensures.count in (
      omega (arith, c.decreases, c.left.invariant.0),
      (
        (q.0, c.args.depth, n.one, n.mid, holds_next q.0 c.args.links.now c.left.links c.args.parent c.args.depth c.left.left.now q.1 q.2 c.left.done c.args.rows.now q.3 so more),
        λ it there. let l = ap (λ o. length (children_by o)) there in omega (arith, place, l),
      ),
    )

pub put_all-other_rows-left-requires : goal.put_all-other_rows-left-requires
put_all-other_rows-left-requires t c =
    let q = c.requires.holds in let so = c.left.invariant.1 q.0 q.1 q.2 q.3 in let more = sym c.begins_at.ensures ∙ c.left-test.true in
    let n = next q.0 c.args.links.now c.left.links c.args.parent c.args.depth c.left.left.now q.1 q.2 c.left.done c.args.rows.now q.3 so more in
    let e = c.in_ok-more.ensures.count q.0 c.args.depth n.one n.mid (holds_next q.0 c.args.links.now c.left.links c.args.parent c.args.depth c.left.left.now q.1 q.2 c.left.done c.args.rows.now q.3 so more) in
    let w = within q.0 c.args.links.now c.left.links c.args.parent c.args.depth c.left.left.now q.1 q.2 c.left.done c.args.rows.now q.3 so more in
    omega (arith, e, w)

pub put_all-overflow_add-done : goal.put_all-overflow_add-done
put_all-overflow_add-done t c =
    let q = c.requires.holds in let so = c.left.invariant.1 q.0 q.1 q.2 q.3 in let more = sym c.begins_at.ensures ∙ c.left-test.true in
    let n = next q.0 c.args.links.now c.left.links c.args.parent c.args.depth c.left.left.now q.1 q.2 c.left.done c.args.rows.now q.3 so more in
    let e = c.in_ok-more.ensures.count q.0 c.args.depth n.one n.mid (holds_next q.0 c.args.links.now c.left.links c.args.parent c.args.depth c.left.left.now q.1 q.2 c.left.done c.args.rows.now q.3 so more) in
    let r = room q.0 c.args.links.now c.left.links c.args.parent c.args.depth c.left.left.now q.1 q.2 c.left.done c.args.rows.now q.3 so more in
    omega (arith, e, r)

pub put_all-left-smaller : goal.put_all-left-smaller
put_all-left-smaller t c =
    let q = c.requires.holds in let so = c.left.invariant.1 q.0 q.1 q.2 q.3 in let more = sym c.begins_at.ensures ∙ c.left-test.true in
    let n = next q.0 c.args.links.now c.left.links c.args.parent c.args.depth c.left.left.now q.1 q.2 c.left.done c.args.rows.now q.3 so more in
    let e = c.in_ok-more.ensures.count q.0 c.args.depth n.one n.mid (holds_next q.0 c.args.links.now c.left.links c.args.parent c.args.depth c.left.left.now q.1 q.2 c.left.done c.args.rows.now q.3 so more) in
    let w = within q.0 c.args.links.now c.left.links c.args.parent c.args.depth c.left.left.now q.1 q.2 c.left.done c.args.rows.now q.3 so more in
    let one = count_one n.one n.own in let l = ap length c.other_rows-left.ensures in let k = length-drop c.in_ok-more.more c.left.left.now in
    omega (arith, e, w, one, l, k)

pub put_all-left-preserved : goal.put_all-left-preserved
put_all-left-preserved t c =
    let l = ap length c.other_rows-left.ensures in let k = length-drop c.in_ok-more.more c.left.left.now in (
      omega (arith, l, k, c.left.invariant.0),
      λ u f end h.
          let so = c.left.invariant.1 u f end h in let more = sym c.begins_at.ensures ∙ c.left-test.true in
          let n = next u c.args.links.now c.left.links c.args.parent c.args.depth c.left.left.now f end c.left.done c.args.rows.now h so more in
          let held = holds_next u c.args.links.now c.left.links c.args.parent c.args.depth c.left.left.now f end c.left.done c.args.rows.now h so more in
          subst (λ (rows : List PartRow). PutSoFar u c.args.links.now c.put_one.new.links c.args.parent c.args.depth rows f end (c.left.done + c.in_ok-more.more)) (sym c.other_rows-left.ensures)
          (next_so u c.args.links.now c.left.links c.args.parent c.args.depth c.left.left.now f end c.left.done c.args.rows.now h so more
          c.put_one.new.links c.child_count-place.result c.in_ok-more.more (c.left.done + c.in_ok-more.more)
          (λ it there. c.child_count-place.ensures.count ∙ ap (λ o. length (children_by o)) there)
          (c.in_ok-more.ensures.planted u c.args.depth n.one n.mid held) (c.in_ok-more.ensures.count u c.args.depth n.one n.mid held) refl),
    )

pub put_all-returns-in_err-more-clause-first : goal.put_all-returns-in_err-more-clause-first
put_all-returns-in_err-more-clause-first t c =
    on_err {P = (u : NameTable) (f : Forest) (end : List PartRow) → Holds u c.args.links.now c.args.parent c.args.depth c.args.rows.now f end → PlantedFirst u c.args.links.now c.put_one.new.links c.args.parent at_end f}
    c.from_residual.result (λ u f end h. subst (λ (ns : Nodes). PlantedFirst u c.args.links.now ns c.args.parent at_end f) (sym c.in_err-more.ensures.err)
    (first u c.args.links.now c.left.links c.args.parent c.args.depth c.left.left.now f end c.left.done c.args.rows.now h (c.left.invariant.1 u f end h)))

pub put_one-put-requires-clause-given : goal.put_one-put-requires-clause-given
put_one-put-requires-clause-given t c =
    let q = c.requires.holds in
    (free q.0 c.args.links.now c.args.links.now c.args.parent c.args.place q.1 c.args.rows.now q.2 q.3 q.4 c.index-rows-0.result c.index-rows-0.is).1

pub put_one-put-requires-clause-free : goal.put_one-put-requires-clause-free
put_one-put-requires-clause-free t c =
    let q = c.requires.holds in
    (free q.0 c.args.links.now c.args.links.now c.args.parent c.args.place q.1 c.args.rows.now q.2 q.3 q.4 c.index-rows-0.result c.index-rows-0.is).0

pub put_one-put-requires-clause-parent : goal.put_one-put-requires-clause-parent
put_one-put-requires-clause-parent t c =
    let can = c.requires.holds.4.can in let high = can.high in (can.it, can.is, c.requires.within can.it can.is, omega (arith, high))

pub put_one-put-requires-in-Element-clause-given : goal.put_one-put-requires-in-Element-clause-given
put_one-put-requires-in-Element-clause-given t c =
    let q = c.requires.holds in
    (free q.0 c.args.links.now c.args.links.now c.args.parent c.args.place q.1 c.args.rows.now q.2 q.3 q.4 c.index-rows-0.result c.index-rows-0.is).1

pub put_one-put-requires-in-Element-clause-free : goal.put_one-put-requires-in-Element-clause-free
put_one-put-requires-in-Element-clause-free t c =
    let q = c.requires.holds in
    (free q.0 c.args.links.now c.args.links.now c.args.parent c.args.place q.1 c.args.rows.now q.2 q.3 q.4 c.index-rows-0.result c.index-rows-0.is).0

pub put_one-put-requires-in-Element-clause-parent : goal.put_one-put-requires-in-Element-clause-parent
put_one-put-requires-in-Element-clause-parent t c =
    let can = c.requires.holds.4.can in let high = can.high in (can.it, can.is, c.requires.within can.it can.is, omega (arith, high))

pub put_one-returns-in_ok-put-in-Chars-clause-planted : goal.put_one-returns-in_ok-put-in-Chars-clause-planted
put_one-returns-in_ok-put-in-Chars-clause-planted t c = λ u depth f left h.
    text_put u c.args.links.now c.put.new.self c.args.parent c.args.place depth c.args.rows.now f left h c.index-rows-0.result c.index-rows-0.is
    c.in_ok-text-in-Chars.text (c.in-Chars.is ∙ ap contents.Chars (sym c.in_ok-text-in-Chars.ensures)) c.in_ok-put-in-Chars.ensures.ok c.in_ok-put-in-Chars.ensures.sound

pub put_one-returns-in_ok-put-in-Chars-clause-count : goal.put_one-returns-in_ok-put-in-Chars-clause-count
put_one-returns-in_ok-put-in-Chars-clause-count t c = λ u depth f left h.
    text_count u c.args.links.now c.put.new.self c.args.parent c.args.place depth c.args.rows.now f left h c.index-rows-0.result c.index-rows-0.is c.in-Chars.text c.in-Chars.is

pub put_one-other_rows-requires : goal.put_one-other_rows-requires
put_one-other_rows-requires t c =
    let q = c.requires.holds in let l = some_row q.0 q.1 c.args.rows.now q.2 q.3 q.4.are q.4.one in omega (arith, l)

pub put_one-put_all-requires : goal.put_one-put_all-requires
put_one-put_all-requires t c =
    let q = c.requires.holds in let mid = c.put-in-Element.new.self in let e = c.in_ok-element-in-Element.element in
    let is = c.in-Element.is ∙ ap contents.Element (sym c.in_ok-element-in-Element.ensures) in
    let l = some_row q.0 q.1 c.args.rows.now q.2 q.3 q.4.are q.4.one in let k = ap length c.other_rows.ensures in let j = length-drop 1 c.args.rows.now in (
      omega (arith, c.decreases, l, k, j),
      (
        q.0,
        (own q.0 c.args.links.now mid c.args.parent c.args.place q.1 c.args.rows.now q.2 q.3 q.4 c.index-rows-0.result c.index-rows-0.is e is).children,
        q.3,
        subst (λ (rows : List PartRow). Holds q.0 mid c.index-rows-0.result.number (c.index-rows-0.result.depth + 1) rows (own q.0 c.args.links.now mid c.args.parent c.args.place q.1 c.args.rows.now q.2 q.3 q.4 c.index-rows-0.result c.index-rows-0.is e is).children q.3) (sym c.other_rows.ensures)
            (holds_below q.0 c.args.links.now mid c.args.parent c.args.place q.1 c.args.rows.now q.2 q.3 q.4 c.index-rows-0.result c.index-rows-0.is e is c.in_ok-put-in-Element.ensures.ok c.in_ok-put-in-Element.ensures.sound (c.index-rows-0.result.depth + 1) refl),
      ),
    )

pub put_one-overflow_add-result : goal.put_one-overflow_add-result
put_one-overflow_add-result t c =
    let q = c.requires.holds in let mid = c.put-in-Element.new.self in let e = c.in_ok-element-in-Element.element in
    let is = c.in-Element.is ∙ ap contents.Element (sym c.in_ok-element-in-Element.ensures) in let i = c.in_ok-put-in-Element.ensures.ok in let sound = c.in_ok-put-in-Element.ensures.sound in
    let o = own q.0 c.args.links.now mid c.args.parent c.args.place q.1 c.args.rows.now q.2 q.3 q.4 c.index-rows-0.result c.index-rows-0.is e is in
    let held = subst (λ (rows : List PartRow). Holds q.0 mid c.index-rows-0.result.number (c.index-rows-0.result.depth + 1) rows o.children q.3) (sym c.other_rows.ensures)
    (holds_below q.0 c.args.links.now mid c.args.parent c.args.place q.1 c.args.rows.now q.2 q.3 q.4 c.index-rows-0.result c.index-rows-0.is e is i sound (c.index-rows-0.result.depth + 1) refl) in
    let k = c.in-Ok.ensures.count q.0 o.children q.3 held in let n = ap count o.is in let few = q.4.can.few in omega (arith, k, n, few)

pub put_one-returns-in-Ok-clause-planted : goal.put_one-returns-in-Ok-clause-planted
put_one-returns-in-Ok-clause-planted t c = λ u depth f left h.
    let mid = c.put-in-Element.new.self in let e = c.in_ok-element-in-Element.element in
    let is = c.in-Element.is ∙ ap contents.Element (sym c.in_ok-element-in-Element.ensures) in let i = c.in_ok-put-in-Element.ensures.ok in let sound = c.in_ok-put-in-Element.ensures.sound in
    let o = own u c.args.links.now mid c.args.parent c.args.place depth c.args.rows.now f left h c.index-rows-0.result c.index-rows-0.is e is in
    let held = subst (λ (rows : List PartRow). Holds u mid c.index-rows-0.result.number (c.index-rows-0.result.depth + 1) rows o.children left) (sym c.other_rows.ensures)
    (holds_below u c.args.links.now mid c.args.parent c.args.place depth c.args.rows.now f left h c.index-rows-0.result c.index-rows-0.is e is i sound (c.index-rows-0.result.depth + 1) refl) in
    element_put u c.args.links.now mid c.args.parent c.args.place depth c.args.rows.now f left h c.index-rows-0.result c.index-rows-0.is e is i sound c.put_all.new.links (c.in-Ok.ensures.planted u o.children left held)

pub put_one-returns-in-Ok-clause-count : goal.put_one-returns-in-Ok-clause-count
put_one-returns-in-Ok-clause-count t c = λ u depth f left h.
    let mid = c.put-in-Element.new.self in let e = c.in_ok-element-in-Element.element in
    let is = c.in-Element.is ∙ ap contents.Element (sym c.in_ok-element-in-Element.ensures) in let i = c.in_ok-put-in-Element.ensures.ok in let sound = c.in_ok-put-in-Element.ensures.sound in
    let o = own u c.args.links.now mid c.args.parent c.args.place depth c.args.rows.now f left h c.index-rows-0.result c.index-rows-0.is e is in
    let held = subst (λ (rows : List PartRow). Holds u mid c.index-rows-0.result.number (c.index-rows-0.result.depth + 1) rows o.children left) (sym c.other_rows.ensures)
    (holds_below u c.args.links.now mid c.args.parent c.args.place depth c.args.rows.now f left h c.index-rows-0.result c.index-rows-0.is e is i sound (c.index-rows-0.result.depth + 1) refl) in
    element_count u c.args.links.now mid c.args.parent c.args.place depth c.args.rows.now f left h c.index-rows-0.result c.index-rows-0.is e is c.in-Ok.below (c.in-Ok.ensures.count u o.children left held)

pub put_one-prune-requires-clause-over : goal.put_one-prune-requires-clause-over
put_one-prune-requires-clause-over t c =
    let q = c.requires.holds in let mid = c.put-in-Element.new.self in let e = c.in_ok-element-in-Element.element in
    let is = c.in-Element.is ∙ ap contents.Element (sym c.in_ok-element-in-Element.ensures) in let i = c.in_ok-put-in-Element.ensures.ok in let sound = c.in_ok-put-in-Element.ensures.sound in
    let o = own q.0 c.args.links.now mid c.args.parent c.args.place q.1 c.args.rows.now q.2 q.3 q.4 c.index-rows-0.result c.index-rows-0.is e is in
    let held = subst (λ (rows : List PartRow). Holds q.0 mid c.index-rows-0.result.number (c.index-rows-0.result.depth + 1) rows o.children q.3) (sym c.other_rows.ensures)
    (holds_below q.0 c.args.links.now mid c.args.parent c.args.place q.1 c.args.rows.now q.2 q.3 q.4 c.index-rows-0.result c.index-rows-0.is e is i sound (c.index-rows-0.result.depth + 1) refl) in
    let first = c.in-Err.ensures.first q.0 o.children q.3 held in
    let whole = can_whole q.0 c.args.links.now mid c.args.parent c.args.place q.1 c.args.rows.now q.2 q.3 q.4 c.index-rows-0.result c.index-rows-0.is e is in
    (q.0, first.part, over q.0 c.args.links.now mid c.put_all.new.links c.args.parent c.args.place c.index-rows-0.result.number (contents.Element e) o.name o.bindings o.attributes o.children whole c.requires.within i sound first)

pub put_one-prune-requires-clause-parent : goal.put_one-prune-requires-clause-parent
put_one-prune-requires-clause-parent t c =
    let q = c.requires.holds in let mid = c.put-in-Element.new.self in let e = c.in_ok-element-in-Element.element in
    let is = c.in-Element.is ∙ ap contents.Element (sym c.in_ok-element-in-Element.ensures) in let i = c.in_ok-put-in-Element.ensures.ok in let sound = c.in_ok-put-in-Element.ensures.sound in
    let o = own q.0 c.args.links.now mid c.args.parent c.args.place q.1 c.args.rows.now q.2 q.3 q.4 c.index-rows-0.result c.index-rows-0.is e is in
    let held = subst (λ (rows : List PartRow). Holds q.0 mid c.index-rows-0.result.number (c.index-rows-0.result.depth + 1) rows o.children q.3) (sym c.other_rows.ensures)
    (holds_below q.0 c.args.links.now mid c.args.parent c.args.place q.1 c.args.rows.now q.2 q.3 q.4 c.index-rows-0.result c.index-rows-0.is e is i sound (c.index-rows-0.result.depth + 1) refl) in
    let first = c.in-Err.ensures.first q.0 o.children q.3 held in
    let whole = can_whole q.0 c.args.links.now mid c.args.parent c.args.place q.1 c.args.rows.now q.2 q.3 q.4 c.index-rows-0.result c.index-rows-0.is e is in
    below_parent q.0 c.args.links.now mid c.put_all.new.links c.args.parent c.args.place c.index-rows-0.result.number (contents.Element e) o.name o.bindings o.attributes o.children whole c.requires.within i sound first

pub put_one-returns-in-Err-clause-err : goal.put_one-returns-in-Err-clause-err
put_one-returns-in-Err-clause-err t c =
    let q = c.requires.holds in let mid = c.put-in-Element.new.self in let e = c.in_ok-element-in-Element.element in
    let is = c.in-Element.is ∙ ap contents.Element (sym c.in_ok-element-in-Element.ensures) in let i = c.in_ok-put-in-Element.ensures.ok in let sound = c.in_ok-put-in-Element.ensures.sound in
    let o = own q.0 c.args.links.now mid c.args.parent c.args.place q.1 c.args.rows.now q.2 q.3 q.4 c.index-rows-0.result c.index-rows-0.is e is in
    let held = subst (λ (rows : List PartRow). Holds q.0 mid c.index-rows-0.result.number (c.index-rows-0.result.depth + 1) rows o.children q.3) (sym c.other_rows.ensures)
    (holds_below q.0 c.args.links.now mid c.args.parent c.args.place q.1 c.args.rows.now q.2 q.3 q.4 c.index-rows-0.result c.index-rows-0.is e is i sound (c.index-rows-0.result.depth + 1) refl) in
    let first = c.in-Err.ensures.first q.0 o.children q.3 held in
    let whole = can_whole q.0 c.args.links.now mid c.args.parent c.args.place q.1 c.args.rows.now q.2 q.3 q.4 c.index-rows-0.result c.index-rows-0.is e is in
    pruned q.0 c.args.links.now mid c.put_all.new.links c.args.parent c.args.place c.index-rows-0.result.number (contents.Element e) o.name o.bindings o.attributes o.children whole c.requires.within i sound first
    c.prune.new.links (λ p k at. c.prune.ensures.prunes q.0 first.part (over q.0 c.args.links.now mid c.put_all.new.links c.args.parent c.args.place c.index-rows-0.result.number (contents.Element e) o.name o.bindings o.attributes o.children whole c.requires.within i sound first) p k at)
