use Rattle.std.proofs.Common.{Err, sym, ap, ◌∙◌}
use Rattle.compiled_schema.specs.Usable.{set_of}
use Rattle.kept_records.specs.Fit.{models_of, symbols_at}
use Rattle.edit_session.proofs.Placed.{made, listed, no-model, asks, around-so}
use Rattle.edit_session.proofs.around.place_in.Goals as goal

pub list_of-requires-clause-made : goal.list_of-requires-clause-made
list_of-requires-clause-made c = made c.args.set.now c.args.doc.now c.args.kept.now c.requires.present c.requires.spaced c.args.node c.requires.here.element

pub list_of-requires-clause-listed : goal.list_of-requires-clause-listed
list_of-requires-clause-listed c =
    let set = c.args.set.now in
    (symbols_at (set_of set) (models_of set) c.args.doc.now c.args.kept.now.records.slots c.args.node, listed set c.args.doc.now c.args.kept.now c.requires.present c.requires.spaced c.args.node c.requires.here.element)

pub new-requires : goal.new-requires
new-requires c =
    let own = c.in-Ok.children in
    asks c.args.set.now c.args.doc.now c.args.kept.now c.requires.present c.requires.spaced c.args.node c.requires.here.element own.automaton.now own.list c.in-Ok.ensures.automaton c.in-Ok.ensures.list
    c.args.index c.requires.here.within own.lists.now c.in-Ok.ensures.lists c.elements_upto-place.result c.elements_upto-place.ensures.count

pub returns-in-Ok-new-clause-place : goal.returns-in-Ok-new-clause-place
returns-in-Ok-new-clause-place c =
    let own = c.in-Ok.children in
    let there = c.in-Ok-new.ensures in
    around-so c.args.set.now c.args.doc.now c.args.kept.now c.requires.present c.requires.spaced c.args.node c.requires.here.element own.automaton.now own.list c.in-Ok.ensures.automaton c.in-Ok.ensures.list
    c.args.index c.requires.here.within own.lists.now c.in-Ok.ensures.lists c.elements_upto-place.result c.elements_upto-place.ensures.count
    c.in-Ok-new.place there.lists there.list there.place there.is

pub returns-in-Err-clause-refused : goal.returns-in-Err-clause-refused
returns-in-Err-clause-refused c = λ other revision closed.
    no-model c.args.set.now c.args.doc.now c.args.kept.now c.requires.present c.requires.spaced c.args.node c.requires.here.element c.args.index c.requires.here.within revision closed c.in-Err.ensures.none.1
    ∙ ap Err (sym c.in-Err.ensures.none.0)
