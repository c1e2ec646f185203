use Rattle.std.proofs.Common.{sym, subst}
use Rattle.compiled_schema.specs.declared.compiled.Compiled.{Compiled}
use Rattle.tree_edits.specs.Inverses.{inverse_of}
use Rattle.tree_edits.specs.EditChanges.{change_of}
use Rattle.doc_tree.specs.Changes.{Means}
use Rattle.kept_keys.specs.Keys.{AreTargetsBy}
use Rattle.edit_session.specs.Edited.{IsDone}
use Rattle.edit_session.specs.Held.{Stands, document_in}
use Rattle.edit_session.proofs.Making.{counted-so, done-so, stands-reached, stands-ready}
use Rattle.edit_session.proofs.editing.edit_kept.Goals as goal

pub make_undoable-requires-clause-can : goal.make_undoable-requires-clause-can
make_undoable-requires-clause-can g c = (
  document_in c.args.set.now c.args.doc.now,
  stands-ready c.args.set.now c.ready.new.set c.args.doc.now c.args.doc.now c.args.kept.now c.args.edit.now c.in-Ok.change c.in-Ok.ensures.ready,
  c.in-Ok.ensures.ready.can,
)

pub make_undoable-requires-clause-present : goal.make_undoable-requires-clause-present
make_undoable-requires-clause-present g c = c.in-Ok.ensures.ready.present

pub make_undoable-requires-clause-targets : goal.make_undoable-requires-clause-targets
make_undoable-requires-clause-targets g c = c.ready.ensures.targets c.args.keys.now c.requires.targets

pub returns-in-Ok-make_undoable-clause-targets : goal.returns-in-Ok-make_undoable-clause-targets
returns-in-Ok-make_undoable-clause-targets g c =
    subst (λ (x : Compiled). AreTargetsBy x c.make_undoable.new.doc c.make_undoable.new.kept.records.slots c.make_undoable.new.keys) (sym c.make_undoable.ensures.same) c.in-Ok-make_undoable.ensures.targets

pub returns-in-Ok-make_undoable-clause-stands : goal.returns-in-Ok-make_undoable-clause-stands
returns-in-Ok-make_undoable-clause-stands g c =
    let z = stands-ready c.args.set.now c.ready.new.set c.args.doc.now c.make_undoable.new.doc c.args.kept.now c.args.edit.now c.in-Ok.change c.in-Ok.ensures.ready in
    subst (λ (x : Compiled). Stands x c.make_undoable.new.doc) (sym c.make_undoable.ensures.same)
    (stands-reached c.args.set.now c.ready.new.set c.args.doc.now c.make_undoable.new.doc c.args.kept.now c.args.edit.now c.in-Ok.change c.in-Ok.ensures.ready c.args.steps.now c.make_undoable.new.steps
    (c.make_undoable.ensures.reach (document_in c.args.set.now c.args.doc.now) z))

pub returns-in-Ok-make_undoable-clause-done : goal.returns-in-Ok-make_undoable-clause-done
returns-in-Ok-make_undoable-clause-done g c =
    let z = stands-ready c.args.set.now c.ready.new.set c.args.doc.now c.make_undoable.new.doc c.args.kept.now c.args.edit.now c.in-Ok.change c.in-Ok.ensures.ready in
    subst (λ (x : Compiled). IsDone c.args.set.now x c.args.doc.now c.make_undoable.new.doc c.make_undoable.new.kept c.args.edit.now) (sym c.make_undoable.ensures.same)
    (done-so c.args.set.now c.ready.new.set c.args.doc.now c.make_undoable.new.doc c.args.kept.now c.args.edit.now c.in-Ok.change c.in-Ok.ensures.ready c.make_undoable.new.kept
    (c.in-Ok-make_undoable.ensures.made (document_in c.args.set.now c.args.doc.now) z) c.in-Ok-make_undoable.ensures.present)

pub returns-in-Ok-make_undoable-clause-inverse : goal.returns-in-Ok-make_undoable-clause-inverse
returns-in-Ok-make_undoable-clause-inverse g c =
    let d = document_in c.args.set.now c.args.doc.now in
    let z = stands-ready c.args.set.now c.ready.new.set c.args.doc.now c.make_undoable.new.doc c.args.kept.now c.args.edit.now c.in-Ok.change c.in-Ok.ensures.ready in
    subst (λ (x : Compiled). Means x.names c.in-Ok-make_undoable.back (inverse_of d (change_of d c.args.edit.now))) (sym c.make_undoable.ensures.same)
    (c.in-Ok-make_undoable.ensures.inverse c.args.set.now.names d c.args.edit.now z c.requires.block c.in-Ok.ensures.ready.prepared)

pub returns-in-Ok-make_undoable-clause-few : goal.returns-in-Ok-make_undoable-clause-few
returns-in-Ok-make_undoable-clause-few g c = λ revision closed.
    let z = stands-ready c.args.set.now c.ready.new.set c.args.doc.now c.make_undoable.new.doc c.args.kept.now c.args.edit.now c.in-Ok.change c.in-Ok.ensures.ready in
    counted-so c.args.set.now c.ready.new.set c.args.doc.now c.make_undoable.new.doc c.args.kept.now c.args.edit.now c.in-Ok.change c.in-Ok.ensures.ready revision closed c.args.steps.now c.make_undoable.new.steps
    c.make_undoable.ensures.least (c.make_undoable.ensures.reach (document_in c.args.set.now c.args.doc.now) z)

pub returns-in-Err-make_undoable-clause-stands : goal.returns-in-Err-make_undoable-clause-stands
returns-in-Err-make_undoable-clause-stands g c =
    let z = stands-ready c.args.set.now c.ready.new.set c.args.doc.now c.make_undoable.new.doc c.args.kept.now c.args.edit.now c.in-Ok.change c.in-Ok.ensures.ready in
    subst (λ (x : Compiled). Stands x c.make_undoable.new.doc) (sym c.make_undoable.ensures.same)
    (stands-reached c.args.set.now c.ready.new.set c.args.doc.now c.make_undoable.new.doc c.args.kept.now c.args.edit.now c.in-Ok.change c.in-Ok.ensures.ready c.args.steps.now c.make_undoable.new.steps
    (c.make_undoable.ensures.reach (document_in c.args.set.now c.args.doc.now) z))

pub returns-in-Err-make_undoable-clause-few : goal.returns-in-Err-make_undoable-clause-few
returns-in-Err-make_undoable-clause-few g c = λ revision closed.
    let z = stands-ready c.args.set.now c.ready.new.set c.args.doc.now c.make_undoable.new.doc c.args.kept.now c.args.edit.now c.in-Ok.change c.in-Ok.ensures.ready in
    counted-so c.args.set.now c.ready.new.set c.args.doc.now c.make_undoable.new.doc c.args.kept.now c.args.edit.now c.in-Ok.change c.in-Ok.ensures.ready revision closed c.args.steps.now c.make_undoable.new.steps
    c.make_undoable.ensures.least (c.make_undoable.ensures.reach (document_in c.args.set.now c.args.doc.now) z)
