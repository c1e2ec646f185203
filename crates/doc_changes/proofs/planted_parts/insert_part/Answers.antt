use Rattle.std.proofs.Common.{◌+◌, length, take, sym, ap, ◌∙◌, subst, arith}
use Rattle.tree_building.proofs.RowCounts.{count-rows}
use Rattle.doc_changes.specs.Fits.{Fits}
use Rattle.doc_changes.specs.Planted.{Plants}
use Rattle.doc_changes.specs.inside.Growing.{CanGrow}
use Rattle.doc_changes.proofs.Inserting.{inserted, stands_grown, stands_once, cut_same}
use Rattle.doc_changes.proofs.Placing.{can_grow, few_more, no_node_past}
use Rattle.doc_changes.proofs.Rooting.{one_root, alone_root, names_in}
use Rattle.plain_tree.specs.Found.{HasNames}
use Rattle.doc_changes.proofs.planted_parts.insert_part.Goals as goal

pub overflow_cast-until : goal.overflow_cast-until
overflow_cast-until c =
    let q = c.requires.fits in let m = few_more c.args.names.now c.args.links.now q.0 c.args.parent c.args.place c.args.part.now.forest q.1 q.2 in
    let size = ap length c.rows.ensures ∙ count-rows 1 c.args.part.now.forest in
    omega (arith, m.0, size)

pub overflow_add-until : goal.overflow_add-until
overflow_add-until c =
    let q = c.requires.fits in let m = few_more c.args.names.now c.args.links.now q.0 c.args.parent c.args.place c.args.part.now.forest q.1 q.2 in
    let size = ap length c.rows.ensures ∙ count-rows 1 c.args.part.now.forest in
    let next = c.next_free-first.ensures.next in let free = q.1.next in
    omega (arith, m.1, size, next, free)

pub grow-requires-clause-can : goal.grow-requires-clause-can
grow-requires-clause-can c =
    let q = c.requires.fits in let f = c.args.part.now.forest in let tree = c.in_ok-index.ensures.tree in let s = c.in-Some.field-0 in
    let size = ap length c.rows.ensures ∙ count-rows 1 f in let next = c.next_free-first.ensures.next in
    let one = one_root c.args.part.now tree s.row.now s.children s.next (sym (c.top.ensures ∙ c.in_ok-index.ensures.index) ∙ c.in-Some.ensures) in
    let until = c.next_free-first.result + length c.rows.result.now in
    subst (λ g. CanGrow c.args.links.now c.args.parent c.args.place g until) one
    (can_grow c.args.names.now c.args.links.now q.0 c.args.parent c.args.place f q.1 q.2 (names_in c.args.part.now.next_free f tree.nodes) (alone_root f tree.root) until (omega (arith, next, size)))

pub grow-requires-clause-names : goal.grow-requires-clause-names
grow-requires-clause-names c = c.requires.fits.1.table

pub returns-in_err-index-clause-names : goal.returns-in_err-index-clause-names
returns-in_err-index-clause-names c = c.requires.fits.1.table

pub returns-in-Ok-clause-change : goal.returns-in-Ok-clause-change
returns-in-Ok-clause-change c =
    let tree = c.in_ok-index.ensures.tree in let s = c.in-Some.field-0 in
    let one = one_root c.args.part.now tree s.row.now s.children s.next (sym (c.top.ensures ∙ c.in_ok-index.ensures.index) ∙ c.in-Some.ensures) in
    subst (Plants c.grow.new.names c.args.links.now c.grow.new.links c.args.parent c.args.place) (sym one) c.in-Ok.ensures.plants

pub returns-in-Ok-clause-tree : goal.returns-in-Ok-clause-tree
returns-in-Ok-clause-tree c = λ d z.
    let q = c.requires.fits in let f = c.args.part.now.forest in let tree = c.in_ok-index.ensures.tree in let s = c.in-Some.field-0 in let old = c.args.links.now in
    let one = one_root c.args.part.now tree s.row.now s.children s.next (sym (c.top.ensures ∙ c.in_ok-index.ensures.index) ∙ c.in-Some.ensures) in
    let plants = subst (Plants c.grow.new.names old c.grow.new.links c.args.parent c.args.place) (sym one) c.in-Ok.ensures.plants in
    let fits = subst (λ e. Fits e c.args.parent c.args.place f) (stands_once c.args.names.now old q.0 d q.1 z) q.2 in
    inserted c.grow.new.names old c.grow.new.links d c.args.parent c.args.place f (stands_grown c.args.names.now c.grow.new.names old d c.in-Ok.ensures.grown c.in-Ok.ensures.names z) fits
    (names_in c.args.part.now.next_free f tree.nodes) (alone_root f tree.root) plants c.in-Ok.ensures.sound

pub cut_numbers-requires : goal.cut_numbers-requires
cut_numbers-requires c = λ m low.
    let next = c.next_free-first.ensures.next in
    c.in-Err.ensures.same m ∙ no_node_past c.args.links.now m (omega (arith, low, next))

pub returns-in-Some-clause-err : goal.returns-in-Some-clause-err
returns-in-Some-clause-err c =
    c.cut_numbers.ensures.change ∙ ap (λ k. take k c.grow.new.links) c.next_free-first.ensures.next ∙ cut_same c.args.links.now c.grow.new.links c.in-Err.ensures.more c.in-Err.ensures.same

pub returns-in-Ok-clause-known : goal.returns-in-Ok-clause-known
returns-in-Ok-clause-known c = λ h.
    let s = c.in-Some.field-0 in
    c.in-Ok.ensures.known (subst (HasNames c.args.names.now) (one_root c.args.part.now c.in_ok-index.ensures.tree s.row.now s.children s.next (sym (c.top.ensures ∙ c.in_ok-index.ensures.index) ∙ c.in-Some.ensures)) h)

pub returns-in-Some-clause-known : goal.returns-in-Some-clause-known
returns-in-Some-clause-known c = λ h.
    let s = c.in-Some.field-0 in
    c.in-Err.ensures.known (subst (HasNames c.args.names.now) (one_root c.args.part.now c.in_ok-index.ensures.tree s.row.now s.children s.next (sym (c.top.ensures ∙ c.in_ok-index.ensures.index) ∙ c.in-Some.ensures)) h)
