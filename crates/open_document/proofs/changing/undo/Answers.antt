use Rattle.std.proofs.Common.{refl, sym, ap, ◌∙◌}
use Rattle.std.proofs.lemmas.Bool.{true≢false}
use Rattle.circular_buffer.specs.Buffer.{last_item}
use Rattle.tree_edits.specs.Inverses.{inverse_of}
use Rattle.doc_tree.specs.declared.change.Change.{Change}
use Rattle.edit_history.specs.History.{undone}
use Rattle.edit_history.specs.Log.{Log, with_undo_taken, with_undo_answered}
use Rattle.edit_history.proofs.Remembering.{undo_remembered}
use Rattle.open_document.specs.Held.{state_of}
use Rattle.open_document.specs.Steps.{touched_undone}
use Rattle.open_document.specs.Touches.{touches}
use Rattle.open_document.proofs.Logging.{none_given, same_logged, can_make, step_made, logged_then, open_then, next_then, step_broken}
use Rattle.open_document.proofs.Noting.{turns_before}
use Rattle.open_document.proofs.changing.undo.Goals as goal

pub make-requires-clause-can : goal.make-requires-clause-can
make-requires-clause-can g c =
    let x = c.args.document.now in
    can_make x (with_undo_answered (with_undo_taken x.log)) (with_undo_answered (with_undo_taken (state_of x).log)) (touched_undone x.session.document) (last_item x.log.past) (undone (state_of x).history) (last_item (state_of x).log.past)
    (undo_remembered x.session.set.names x.log x.session.document c.is_found.ensures.tree c.requires.logged.logged) c.in-Some.step (sym c.take_undo.ensures.step ∙ c.in-Some.is)

pub note-requires-clause-later : goal.note-requires-clause-later
note-requires-clause-later g c =
    let x = c.args.document.now in
    turns_before x c.requires.logged c.revision-revision.result (c.revision-revision.ensures
    ∙ next_then x (with_undo_answered (with_undo_taken x.log)) (with_undo_answered (with_undo_taken (state_of x).log)) (touched_undone x.session.document) (last_item x.log.past) (undone (state_of x).history) (last_item (state_of x).log.past)
    (undo_remembered x.session.set.names x.log x.session.document c.is_found.ensures.tree c.requires.logged.logged)
    c.in-Some.step (sym c.take_undo.ensures.step ∙ c.in-Some.is) c.make.new.session c.in-Ok.ensures.changed)

pub returns-in-None-clause-makes : goal.returns-in-None-clause-makes
returns-in-None-clause-makes g c =
    let x = c.args.document.now in
    none_given x (with_undo_answered (with_undo_taken x.log)) (with_undo_answered (with_undo_taken (state_of x).log)) (touched_undone x.session.document) (last_item x.log.past) (undone (state_of x).history) (last_item (state_of x).log.past)
    (undo_remembered x.session.set.names x.log x.session.document c.is_found.ensures.tree c.requires.logged.logged) _ c.take_undo.new.self c.args.steps.now (sym c.take_undo.ensures.step ∙ c.in-None.is) c.in-None.ensures.none

pub returns-in-Ok-clause-makes : goal.returns-in-Ok-clause-makes
returns-in-Ok-clause-makes g c =
    let x = c.args.document.now in
    step_made x (with_undo_answered (with_undo_taken x.log)) (with_undo_answered (with_undo_taken (state_of x).log)) (touched_undone x.session.document) (last_item x.log.past) (undone (state_of x).history) (last_item (state_of x).log.past)
    (undo_remembered x.session.set.names x.log x.session.document c.is_found.ensures.tree c.requires.logged.logged) c.in-Some.step (sym c.take_undo.ensures.step ∙ c.in-Some.is) c.make.new.session c.undone.new.self c.note.new.self c.in-Ok.back
    (c.undone.ensures ∙ ap (λ (l : Log Change). with_undo_answered l c.in-Ok.back) (c.in-Some.ensures.some refl))
    c.in-Ok.ensures.changed c.in-Ok.ensures.inverse c.requires.logged c.revision-revision.result c.touched_on-keys.result c.revision-revision.ensures c.note.ensures
    (λ h own steps there means. c.touched_on-keys.ensures (inverse_of x.session.document own) means ∙ ap (touches (inverse_of x.session.document own)) there)
    _ c.args.steps.now c.make.new.steps c.in-Ok.ensures.counted

pub returns-in-Ok-clause-logged : goal.returns-in-Ok-clause-logged
returns-in-Ok-clause-logged g c = λ live.
    let x = c.args.document.now in
    logged_then x (with_undo_answered (with_undo_taken x.log)) (with_undo_answered (with_undo_taken (state_of x).log)) (touched_undone x.session.document) (last_item x.log.past) (undone (state_of x).history) (last_item (state_of x).log.past)
    (undo_remembered x.session.set.names x.log x.session.document c.is_found.ensures.tree c.requires.logged.logged) c.in-Some.step (sym c.take_undo.ensures.step ∙ c.in-Some.is) c.make.new.session c.undone.new.self c.note.new.self c.in-Ok.back
    (c.undone.ensures ∙ ap (λ (l : Log Change). with_undo_answered l c.in-Ok.back) (c.in-Some.ensures.some refl))
    c.in-Ok.ensures.changed c.in-Ok.ensures.inverse c.requires.logged c.revision-revision.result c.touched_on-keys.result c.revision-revision.ensures c.note.ensures
    (λ h own steps there means. c.touched_on-keys.ensures (inverse_of x.session.document own) means ∙ ap (touches (inverse_of x.session.document own)) there)
    c.requires.logged.depth

pub returns-in-Ok-clause-open : goal.returns-in-Ok-clause-open
returns-in-Ok-clause-open g c =
    let x = c.args.document.now in
    open_then x (with_undo_answered (with_undo_taken x.log)) (with_undo_answered (with_undo_taken (state_of x).log)) (touched_undone x.session.document) (last_item x.log.past) (undone (state_of x).history) (last_item (state_of x).log.past)
    (undo_remembered x.session.set.names x.log x.session.document c.is_found.ensures.tree c.requires.logged.logged) c.in-Some.step (sym c.take_undo.ensures.step ∙ c.in-Some.is) c.make.new.session c.in-Ok.ensures.changed

pub returns-in-Err-clause-makes : goal.returns-in-Err-clause-makes
returns-in-Err-clause-makes g c =
    let x = c.args.document.now in
    step_broken x (with_undo_answered (with_undo_taken x.log)) (with_undo_answered (with_undo_taken (state_of x).log)) (touched_undone x.session.document) (last_item x.log.past) (undone (state_of x).history) (last_item (state_of x).log.past)
    (undo_remembered x.session.set.names x.log x.session.document c.is_found.ensures.tree c.requires.logged.logged) c.in-Some.step (sym c.take_undo.ensures.step ∙ c.in-Some.is) _ c.in-Err.error _ c.args.steps.now c.make.new.steps
    c.in-Err.ensures.broken

pub returns-in-None-clause-logged : goal.returns-in-None-clause-logged
returns-in-None-clause-logged g c = λ lives. same_logged c.args.document.now c.take_undo.new.self c.in-None.ensures.none c.requires.logged

pub returns-in-Err-clause-logged : goal.returns-in-Err-clause-logged
returns-in-Err-clause-logged g c = λ lives. absurd (true≢false (sym c.in-Err.ensures.closed ∙ lives))
