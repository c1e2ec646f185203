use Rattle.std.proofs.Common.{◌+◌, length, sym, ap, ◌∙◌, subst, refl, arith}
use Rattle.xs_names.proofs.GrownLaws.{Grown-trans}
use Rattle.tree_rows.specs.declared.row.Content.TheVariants as rows
use Rattle.doc_nodes.specs.declared.content.Content.TheVariants as contents
use Rattle.doc_nodes.specs.Nodes.{children_by}
use Rattle.doc_changes.proofs.Growth.{begun, ended, can_next, next_so, first_of, count_taken, number_free, text_planted, text_counted, can_whole, can_below, planted_whole, element_size, element_counted, named_one}
use Rattle.plain_tree.specs.Found.{HasNames}
use Rattle.doc_changes.proofs.Known.{known_next, names_of_tag}
use Rattle.doc_changes.proofs.Placing.{on_err}
use Rattle.doc_changes.proofs.Pruning.{over, below_parent, pruned}
use Rattle.doc_changes.proofs.planting.+put.Goals as goal

pub put_all-left-init : goal.put_all-left-init
put_all-left-init t c = begun c.args.names.now c.args.links.now c.args.parent c.args.number c.args.siblings c.requires.names c.requires.can.sound

pub put_all-put_one-requires : goal.put_all-put_one-requires
put_all-put_one-requires t c =
    let s = c.in-Some.field-0 in let so = c.left.invariant in
    let k = count_taken s.row.now s.children s.next c.left.left c.in-Some.ensures in let n = so.counted in let place = c.child_count-place.ensures.count in (
      omega (arith, c.decreases, k.0, n),
      (
        can_next c.args.names.now c.left.names c.args.links.now c.left.links c.args.parent c.args.number c.args.siblings c.left.numbers_left c.left.left c.requires.can so s.row.now s.children s.next c.in-Some.ensures,
        ((λ it there. let l = ap (λ o. length (children_by o)) there in omega (arith, place, l)), so.sound),
      ),
    )

pub put_all-left-smaller : goal.put_all-left-smaller
put_all-left-smaller t c =
    let s = c.in-Some.field-0 in
    let k = count_taken s.row.now s.children s.next c.left.left c.in-Some.ensures in omega (arith, k.0, k.1)

pub put_all-left-preserved : goal.put_all-left-preserved
put_all-left-preserved t c =
    let s = c.in-Some.field-0 in
    next_so c.args.names.now c.left.names c.args.links.now c.left.links c.args.parent c.args.number c.args.siblings c.left.numbers_left c.left.left c.requires.can c.left.invariant s.row.now s.children s.next c.in-Some.ensures
    c.put_one.new.names c.put_one.new.links c.child_count-place.result c.in_ok-numbers_left.ensures.grown c.in_ok-numbers_left.ensures.names c.in_ok-numbers_left.ensures.known
    (λ it there. c.child_count-place.ensures.count ∙ ap (λ o. length (children_by o)) there) c.in_ok-numbers_left.ensures.planted _ c.in_ok-numbers_left.ensures.behind

pub put_all-returns-in_err-numbers_left-clause-first : goal.put_all-returns-in_err-numbers_left-clause-first
put_all-returns-in_err-numbers_left-clause-first t c =
    let s = c.in-Some.field-0 in
    on_err _ (first_of c.args.names.now c.left.names c.args.links.now c.left.links c.args.parent c.args.number c.args.siblings c.left.numbers_left c.left.left c.requires.can c.left.invariant s.row.now s.children s.next c.in-Some.ensures
    c.put_one.new.names c.put_one.new.links c.child_count-place.result c.in_err-numbers_left.ensures.grown c.in_err-numbers_left.ensures.names c.in_err-numbers_left.ensures.err)

pub put_all-returns-in_err-numbers_left-clause-grown : goal.put_all-returns-in_err-numbers_left-clause-grown
put_all-returns-in_err-numbers_left-clause-grown t c = Grown-trans c.args.names.now c.left.names c.put_one.new.names c.left.invariant.grown c.in_err-numbers_left.ensures.grown

pub put_all-returns-clause-planted : goal.put_all-returns-clause-planted
put_all-returns-clause-planted t c =
    (ended c.args.names.now c.left.names c.args.links.now c.left.links c.args.parent c.args.number c.args.siblings c.left.numbers_left c.left.left c.left.invariant c.in_default.ensures).0

pub put_all-returns-clause-behind : goal.put_all-returns-clause-behind
put_all-returns-clause-behind t c =
    (ended c.args.names.now c.left.names c.args.links.now c.left.links c.args.parent c.args.number c.args.siblings c.left.numbers_left c.left.left c.left.invariant c.in_default.ensures).1

pub put_all-returns-clause-grown : goal.put_all-returns-clause-grown
put_all-returns-clause-grown t c = c.left.invariant.grown

pub put_all-returns-clause-names : goal.put_all-returns-clause-names
put_all-returns-clause-names t c = c.left.invariant.sound

pub put_one-overflow_add-behind : goal.put_one-overflow_add-behind
put_one-overflow_add-behind t c =
    let low = (number_free c.args.number c.args.row.now c.args.children c.args.links.now c.args.spot.parent c.requires.can c.args.number refl).2 in omega (arith, low)

pub put_one-put-requires-clause-given : goal.put_one-put-requires-clause-given
put_one-put-requires-clause-given t c =
    (number_free c.args.number c.args.row.now c.args.children c.args.links.now c.args.spot.parent c.requires.can c.args.number refl).1

pub put_one-put-requires-clause-free : goal.put_one-put-requires-clause-free
put_one-put-requires-clause-free t c =
    (number_free c.args.number c.args.row.now c.args.children c.args.links.now c.args.spot.parent c.requires.can c.args.number refl).0

pub put_one-put-requires-clause-parent : goal.put_one-put-requires-clause-parent
put_one-put-requires-clause-parent t c =
    let can = c.requires.can in let high = can.high in (can.it, can.is, c.requires.within can.it can.is, omega (arith, high))

pub put_one-returns-in_ok-put-in-Chars-clause-planted : goal.put_one-returns-in_ok-put-in-Chars-clause-planted
put_one-returns-in_ok-put-in-Chars-clause-planted t c =
    text_planted c.args.number c.args.row.now c.args.children c.args.names.now c.args.links.now c.put.new.self c.args.spot.parent c.args.spot.place c.requires.can
    c.args.number refl c.in_ok-text-in-Chars.text (c.in-Chars.is ∙ ap rows.Chars (sym c.in_ok-text-in-Chars.ensures)) c.in_ok-put-in-Chars.ensures.ok c.in_ok-put-in-Chars.ensures.sound

pub put_one-returns-in_ok-put-in-Chars-clause-behind : goal.put_one-returns-in_ok-put-in-Chars-clause-behind
put_one-returns-in_ok-put-in-Chars-clause-behind t c =
    text_counted c.args.number c.args.row.now c.args.children c.in-Chars.text c.in-Chars.is (c.args.number + 1) refl

pub put_one-put_tag-requires-clause-named : goal.put_one-put_tag-requires-clause-named
put_one-put_tag-requires-clause-named t c =
    named_one c.args.links.now c.args.spot.parent c.args.number c.args.row.now c.args.children c.requires.can c.in-Element.name c.in-Element.is

pub put_one-put_tag-requires-clause-given : goal.put_one-put_tag-requires-clause-given
put_one-put_tag-requires-clause-given t c =
    (number_free c.args.number c.args.row.now c.args.children c.args.links.now c.args.spot.parent c.requires.can c.args.number refl).1

pub put_one-put_tag-requires-clause-free : goal.put_one-put_tag-requires-clause-free
put_one-put_tag-requires-clause-free t c =
    (number_free c.args.number c.args.row.now c.args.children c.args.links.now c.args.spot.parent c.requires.can c.args.number refl).0

pub put_one-put_tag-requires-clause-parent : goal.put_one-put_tag-requires-clause-parent
put_one-put_tag-requires-clause-parent t c =
    let can = c.requires.can in let high = can.high in (can.it, can.is, c.requires.within can.it can.is, omega (arith, high))

pub put_one-put_all-requires : goal.put_one-put_all-requires
put_one-put_all-requires t c =
    let puts = c.in_ok-put_tag-in-Element.ensures.ok in let s = c.args.number in let row = c.args.row.now in
    let size = element_size s row c.args.children c.put_tag.new.names c.args.links.now c.put_tag.new.links c.args.spot.parent c.args.spot.place c.requires.can c.args.number refl (c.args.number + 1) refl
    c.in-Element.name c.in-Element.is puts c.in_ok-put_tag-in-Element.ensures.sound in (
      omega (arith, c.decreases, size),
      (
        can_below s row c.args.children c.put_tag.new.names c.args.links.now c.put_tag.new.links c.args.spot.parent c.args.spot.place c.requires.can c.args.number refl (c.args.number + 1) refl
            c.in-Element.name c.in-Element.is puts c.in_ok-put_tag-in-Element.ensures.sound,
        c.in_ok-put_tag-in-Element.ensures.names,
      ),
    )

pub put_one-returns-in-Ok-clause-planted : goal.put_one-returns-in-Ok-clause-planted
put_one-returns-in-Ok-clause-planted t c =
    planted_whole c.args.number c.args.row.now c.args.children c.put_tag.new.names c.args.links.now c.put_tag.new.links c.args.spot.parent c.args.spot.place c.requires.can c.args.number refl (c.args.number + 1) refl
    c.in-Element.name c.in-Element.is c.in_ok-put_tag-in-Element.ensures.ok c.in_ok-put_tag-in-Element.ensures.sound c.put_all.new.names c.put_all.new.links c.in-Ok.ensures.grown c.in_ok-put_tag-in-Element.ensures.names c.in-Ok.ensures.planted

pub put_one-returns-in-Ok-clause-behind : goal.put_one-returns-in-Ok-clause-behind
put_one-returns-in-Ok-clause-behind t c =
    element_counted c.args.number c.args.row.now c.args.children c.put_tag.new.names c.args.links.now c.put_tag.new.links c.args.spot.parent c.args.spot.place c.requires.can c.args.number refl (c.args.number + 1) refl
    c.in-Element.name c.in-Element.is c.in_ok-put_tag-in-Element.ensures.ok c.in_ok-put_tag-in-Element.ensures.sound c.in-Ok.left c.in-Ok.ensures.behind

pub put_one-returns-in-Ok-clause-grown : goal.put_one-returns-in-Ok-clause-grown
put_one-returns-in-Ok-clause-grown t c = Grown-trans c.args.names.now c.put_tag.new.names c.put_all.new.names c.in_ok-put_tag-in-Element.ensures.grown c.in-Ok.ensures.grown

pub put_one-returns-in-Err-clause-grown : goal.put_one-returns-in-Err-clause-grown
put_one-returns-in-Err-clause-grown t c = Grown-trans c.args.names.now c.put_tag.new.names c.put_all.new.names c.in_ok-put_tag-in-Element.ensures.grown c.in-Err.ensures.grown

pub put_one-prune-requires-clause-over : goal.put_one-prune-requires-clause-over
put_one-prune-requires-clause-over t c =
    let puts = c.in_ok-put_tag-in-Element.ensures.ok in let s = c.args.number in let row = c.args.row.now in let first = c.in-Err.ensures.first in
    let whole = can_whole s row c.args.children c.put_tag.new.names c.args.links.now c.put_tag.new.links c.args.spot.parent c.args.spot.place c.requires.can c.args.number refl (c.args.number + 1) refl
    c.in-Element.name c.in-Element.is puts c.in_ok-put_tag-in-Element.ensures.sound in (
      c.put_all.new.names,
      first.part,
      over c.put_all.new.names c.args.links.now c.put_tag.new.links c.put_all.new.links c.args.spot.parent c.args.spot.place c.args.number (contents.Element puts.parts) c.in-Element.name row.bindings row.attributes _ whole c.requires.within puts.inserts c.in_ok-put_tag-in-Element.ensures.sound first,
    )

pub put_one-prune-requires-clause-parent : goal.put_one-prune-requires-clause-parent
put_one-prune-requires-clause-parent t c =
    let puts = c.in_ok-put_tag-in-Element.ensures.ok in let s = c.args.number in let row = c.args.row.now in let first = c.in-Err.ensures.first in
    let whole = can_whole s row c.args.children c.put_tag.new.names c.args.links.now c.put_tag.new.links c.args.spot.parent c.args.spot.place c.requires.can c.args.number refl (c.args.number + 1) refl
    c.in-Element.name c.in-Element.is puts c.in_ok-put_tag-in-Element.ensures.sound in
    below_parent c.put_all.new.names c.args.links.now c.put_tag.new.links c.put_all.new.links c.args.spot.parent c.args.spot.place c.args.number (contents.Element puts.parts) c.in-Element.name row.bindings row.attributes _ whole c.requires.within puts.inserts c.in_ok-put_tag-in-Element.ensures.sound first

pub put_one-returns-in-Err-clause-err : goal.put_one-returns-in-Err-clause-err
put_one-returns-in-Err-clause-err t c =
    let puts = c.in_ok-put_tag-in-Element.ensures.ok in let s = c.args.number in let row = c.args.row.now in let first = c.in-Err.ensures.first in
    let whole = can_whole s row c.args.children c.put_tag.new.names c.args.links.now c.put_tag.new.links c.args.spot.parent c.args.spot.place c.requires.can c.args.number refl (c.args.number + 1) refl
    c.in-Element.name c.in-Element.is puts c.in_ok-put_tag-in-Element.ensures.sound in
    let own = over c.put_all.new.names c.args.links.now c.put_tag.new.links c.put_all.new.links c.args.spot.parent c.args.spot.place c.args.number (contents.Element puts.parts) c.in-Element.name row.bindings row.attributes _ whole c.requires.within puts.inserts c.in_ok-put_tag-in-Element.ensures.sound first in
    pruned c.put_all.new.names c.args.links.now c.put_tag.new.links c.put_all.new.links c.args.spot.parent c.args.spot.place c.args.number (contents.Element puts.parts) c.in-Element.name row.bindings row.attributes _ whole c.requires.within puts.inserts c.in_ok-put_tag-in-Element.ensures.sound first
    c.prune.new.links (λ q k at. c.prune.ensures.prunes c.put_all.new.names first.part own q k at)

pub put_all-returns-in_err-numbers_left-clause-known : goal.put_all-returns-in_err-numbers_left-clause-known
put_all-returns-in_err-numbers_left-clause-known t c = λ h.
    let s = c.in-Some.field-0 in
    (known_next c.args.names.now c.left.names c.put_one.new.names s.row.now s.children s.next c.left.left c.in-Some.ensures c.in_err-numbers_left.ensures.known (c.left.invariant.known h)).0

pub put_all-returns-clause-known : goal.put_all-returns-clause-known
put_all-returns-clause-known t c = λ h. (c.left.invariant.known h).0

pub put_one-returns-in_err-put_tag-in-Element-clause-known : goal.put_one-returns-in_err-put_tag-in-Element-clause-known
put_one-returns-in_err-put_tag-in-Element-clause-known t c = λ h.
    let p = names_of_tag c.args.names.now c.args.row.now c.args.children c.in-Element.name c.in-Element.is h in
    c.in_err-put_tag-in-Element.ensures.known c.requires.names p.0

pub put_one-returns-in-Ok-clause-known : goal.put_one-returns-in-Ok-clause-known
put_one-returns-in-Ok-clause-known t c = λ h.
    let p = names_of_tag c.args.names.now c.args.row.now c.args.children c.in-Element.name c.in-Element.is h in
    let e = c.in_ok-put_tag-in-Element.ensures.known c.requires.names p.0 in
    c.in-Ok.ensures.known (subst (λ u. HasNames u c.args.children) (sym e) p.1) ∙ e

pub put_one-returns-in-Err-clause-known : goal.put_one-returns-in-Err-clause-known
put_one-returns-in-Err-clause-known t c = λ h.
    let p = names_of_tag c.args.names.now c.args.row.now c.args.children c.in-Element.name c.in-Element.is h in
    let e = c.in_ok-put_tag-in-Element.ensures.known c.requires.names p.0 in
    c.in-Err.ensures.known (subst (λ u. HasNames u c.args.children) (sym e) p.1) ∙ e
