use Rattle.std.proofs.Common.{slice_get, refl, sym, ap, ◌∙◌}
use Rattle.std.proofs.lemmas.Bool.{true≢false}
use Rattle.doc_tree.specs.declared.change.Change.{Change}
use Rattle.edit_history.specs.History.{redone}
use Rattle.edit_history.specs.Log.{Log, with_redo_taken, with_redo_answered}
use Rattle.edit_history.proofs.Remembering.{redo_remembered}
use Rattle.open_document.specs.Held.{state_of}
use Rattle.open_document.specs.Steps.{touched_redone}
use Rattle.open_document.proofs.Logging.{none_given, same_logged, can_make, step_made, logged_then, open_then, next_then, step_broken}
use Rattle.open_document.proofs.Noting.{turns_before}
use Rattle.open_document.proofs.changing.redo.Goals as goal

pub make-requires-clause-can : goal.make-requires-clause-can
make-requires-clause-can g c =
    let x = c.args.document.now in
    can_make x (with_redo_answered (with_redo_taken x.log)) (with_redo_answered (with_redo_taken (state_of x).log)) (touched_redone x.session.document) (slice_get x.log.future 0) (redone (state_of x).history) (slice_get (state_of x).log.future 0)
    (redo_remembered x.session.set.names x.log x.session.document c.is_found.ensures.tree c.requires.logged.logged) c.in-Some.step (sym c.take_redo.ensures.step ∙ c.in-Some.is)

pub note-requires-clause-later : goal.note-requires-clause-later
note-requires-clause-later g c =
    let x = c.args.document.now in
    turns_before x c.requires.logged c.revision-revision.result (c.revision-revision.ensures
    ∙ next_then x (with_redo_answered (with_redo_taken x.log)) (with_redo_answered (with_redo_taken (state_of x).log)) (touched_redone x.session.document) (slice_get x.log.future 0) (redone (state_of x).history) (slice_get (state_of x).log.future 0)
    (redo_remembered x.session.set.names x.log x.session.document c.is_found.ensures.tree c.requires.logged.logged)
    c.in-Some.step (sym c.take_redo.ensures.step ∙ c.in-Some.is) c.make.new.session c.in-Ok.ensures.changed)

pub returns-in-None-clause-makes : goal.returns-in-None-clause-makes
returns-in-None-clause-makes g c =
    let x = c.args.document.now in
    none_given x (with_redo_answered (with_redo_taken x.log)) (with_redo_answered (with_redo_taken (state_of x).log)) (touched_redone x.session.document) (slice_get x.log.future 0) (redone (state_of x).history) (slice_get (state_of x).log.future 0)
    (redo_remembered x.session.set.names x.log x.session.document c.is_found.ensures.tree c.requires.logged.logged) _ c.take_redo.new.self c.args.steps.now (sym c.take_redo.ensures.step ∙ c.in-None.is) c.in-None.ensures.none

pub returns-in-Ok-clause-makes : goal.returns-in-Ok-clause-makes
returns-in-Ok-clause-makes g c =
    let x = c.args.document.now in
    step_made x (with_redo_answered (with_redo_taken x.log)) (with_redo_answered (with_redo_taken (state_of x).log)) (touched_redone x.session.document) (slice_get x.log.future 0) (redone (state_of x).history) (slice_get (state_of x).log.future 0)
    (redo_remembered x.session.set.names x.log x.session.document c.is_found.ensures.tree c.requires.logged.logged) c.in-Some.step (sym c.take_redo.ensures.step ∙ c.in-Some.is) c.make.new.session c.redone.new.self c.note.new.self c.in-Ok.back
    (c.redone.ensures ∙ ap (λ (l : Log Change). with_redo_answered l c.in-Ok.back) (c.in-Some.ensures.some refl))
    c.in-Ok.ensures.changed c.in-Ok.ensures.inverse c.requires.logged c.revision-revision.result c.touched_on-keys.result c.revision-revision.ensures c.note.ensures
    (λ h own steps there means. c.touched_on-keys.ensures own steps.means)
    _ c.args.steps.now c.make.new.steps c.in-Ok.ensures.counted

pub returns-in-Ok-clause-logged : goal.returns-in-Ok-clause-logged
returns-in-Ok-clause-logged g c = λ live.
    let x = c.args.document.now in
    logged_then x (with_redo_answered (with_redo_taken x.log)) (with_redo_answered (with_redo_taken (state_of x).log)) (touched_redone x.session.document) (slice_get x.log.future 0) (redone (state_of x).history) (slice_get (state_of x).log.future 0)
    (redo_remembered x.session.set.names x.log x.session.document c.is_found.ensures.tree c.requires.logged.logged) c.in-Some.step (sym c.take_redo.ensures.step ∙ c.in-Some.is) c.make.new.session c.redone.new.self c.note.new.self c.in-Ok.back
    (c.redone.ensures ∙ ap (λ (l : Log Change). with_redo_answered l c.in-Ok.back) (c.in-Some.ensures.some refl))
    c.in-Ok.ensures.changed c.in-Ok.ensures.inverse c.requires.logged c.revision-revision.result c.touched_on-keys.result c.revision-revision.ensures c.note.ensures
    (λ h own steps there means. c.touched_on-keys.ensures own steps.means)
    c.requires.logged.depth

pub returns-in-Ok-clause-open : goal.returns-in-Ok-clause-open
returns-in-Ok-clause-open g c =
    let x = c.args.document.now in
    open_then x (with_redo_answered (with_redo_taken x.log)) (with_redo_answered (with_redo_taken (state_of x).log)) (touched_redone x.session.document) (slice_get x.log.future 0) (redone (state_of x).history) (slice_get (state_of x).log.future 0)
    (redo_remembered x.session.set.names x.log x.session.document c.is_found.ensures.tree c.requires.logged.logged) c.in-Some.step (sym c.take_redo.ensures.step ∙ c.in-Some.is) c.make.new.session c.in-Ok.ensures.changed

pub returns-in-Err-clause-makes : goal.returns-in-Err-clause-makes
returns-in-Err-clause-makes g c =
    let x = c.args.document.now in
    step_broken x (with_redo_answered (with_redo_taken x.log)) (with_redo_answered (with_redo_taken (state_of x).log)) (touched_redone x.session.document) (slice_get x.log.future 0) (redone (state_of x).history) (slice_get (state_of x).log.future 0)
    (redo_remembered x.session.set.names x.log x.session.document c.is_found.ensures.tree c.requires.logged.logged) c.in-Some.step (sym c.take_redo.ensures.step ∙ c.in-Some.is) _ c.in-Err.error _ c.args.steps.now c.make.new.steps
    c.in-Err.ensures.broken

pub returns-in-None-clause-logged : goal.returns-in-None-clause-logged
returns-in-None-clause-logged g c = λ lives. same_logged c.args.document.now c.take_redo.new.self c.in-None.ensures.none c.requires.logged

pub returns-in-Err-clause-logged : goal.returns-in-Err-clause-logged
returns-in-Err-clause-logged g c = λ lives. absurd (true≢false (sym c.in-Err.ensures.closed ∙ lives))
