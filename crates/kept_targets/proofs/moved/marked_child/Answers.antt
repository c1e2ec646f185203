use Rattle.std.proofs.Common.{Some, None, sym}
use Rattle.compiled_schema.specs.Usable.{set_of}
use Rattle.child_lists.specs.from_kept_records.Fit.{models_of, model_at, symbols_at}
use Rattle.child_lists.specs.from_kept_records.Slots.{kept_at}
use Rattle.kept_targets.proofs.Looking.{fit-of, made-of}
use Rattle.kept_targets.proofs.Marking.{at-child, marked-get, unlisted}
use Rattle.kept_targets.proofs.moved.marked_child.Goals as goal

pub list_at-requires : goal.list_at-requires
list_at-requires c = let by = c.args.by.now in made-of by.set.now by.doc.now by.state.now c.requires.whole c.args.parent c.requires.element

pub marked-requires : goal.marked-requires
marked-requires c =
    let list = sym c.in-Some.ensures in
    c.requires.whole.beside.own.live c.args.parent c.in-Some.list list

pub returns-in-None : goal.returns-in-None
returns-in-None c =
    let by = c.args.by.now in
    let s = set_of by.set.now in
    let k = by.state.now in
    let fit = fit-of by.set.now by.doc.now k c.requires.whole c.args.parent (made-of by.set.now by.doc.now k c.requires.whole c.args.parent c.requires.element) in
    unlisted k.lists (model_at s (models_of by.set.now) by.doc.now k.records.slots c.args.parent) (kept_at k.records.slots c.args.parent).list (symbols_at s (models_of by.set.now) by.doc.now k.records.slots c.args.parent)
    (sym c.in-None.ensures) fit.gathered.list_is c.args.number

pub returns-in-None-marked : goal.returns-in-None-marked
returns-in-None-marked c =
    let by = c.args.by.now in
    let s = set_of by.set.now in
    let k = by.state.now in
    let fit = fit-of by.set.now by.doc.now k c.requires.whole c.args.parent (made-of by.set.now by.doc.now k c.requires.whole c.args.parent c.requires.element) in
    sym (marked-get k.lists (model_at s (models_of by.set.now) by.doc.now k.records.slots c.args.parent) (kept_at k.records.slots c.args.parent).list c.in-Some.list (symbols_at s (models_of by.set.now) by.doc.now k.records.slots c.args.parent)
    (sym c.in-Some.ensures) fit.gathered.list_is None c.args.number c.in-None-marked.ensures)

pub returns-in-Some-marked : goal.returns-in-Some-marked
returns-in-Some-marked c =
    let by = c.args.by.now in
    let s = set_of by.set.now in
    let k = by.state.now in
    let fit = fit-of by.set.now by.doc.now k c.requires.whole c.args.parent (made-of by.set.now by.doc.now k c.requires.whole c.args.parent c.requires.element) in
    at-child by.set.now by.doc.now k c.args.parent c.args.number c.in-Some-marked.place
    (marked-get k.lists (model_at s (models_of by.set.now) by.doc.now k.records.slots c.args.parent) (kept_at k.records.slots c.args.parent).list c.in-Some.list (symbols_at s (models_of by.set.now) by.doc.now k.records.slots c.args.parent)
    (sym c.in-Some.ensures) fit.gathered.list_is (Some c.in-Some-marked.place) c.args.number c.in-Some-marked.ensures)
    c.element_at.result c.element_at.ensures.element
