-- Edits, and steps along the history of an open document: an undo goes back to the last tree of the past, a redo on to the first of the future.
use Rattle.std.specs.Prelude.{ℕ, ◌++◌, List, [], ◌∷◌, Option, Some, None, slice_get}
use Rattle.circular_buffer.specs.Buffer.{last_item}
use Rattle.tree_rows.specs.Forest.{Forest, Document}
use Rattle.tree_edits.specs.declared.edit.Edit.{Edit}
use Rattle.tree_edits.specs.Inverses.{Change, inverse_of}
use Rattle.tree_edits.specs.EditChanges.{change_of}
use Rattle.assessment.specs.Assessment.{Entry}
use Rattle.session_model.specs.State.{after_edit, next_revision}
use Rattle.edit_session.specs.Changed.{after_change}
use Rattle.edit_session.specs.Reopened.{after_swap}
use Rattle.assessment.specs.Attribution.{SchemaSet}
use Rattle.edit_history.specs.History.{History, opened, edited, undone, redone}
use Rattle.edit_history.specs.Log.{Log, cleared, noted, with_undo_taken, with_undo_answered, with_redo_taken, with_redo_answered}
use Rattle.edit_history.specs.Turns.{turn}
use Rattle.edit_history.specs.declared.turn.Turn.{Turn}
use Rattle.edit_history.specs.declared.touched.Touched.{Touched}
use Rattle.open_document.specs.State.{OpenState, kept_trees}
use Rattle.open_document.specs.Touches.{touched, touches}

-- the turns, where one more is taken that touches this: it makes the next revision
abbrev pub with_turn : OpenState → ℕ → Touched → List Turn
with_turn s author keys = s.turns ++ turn (next_revision s.session.revision) author keys ∷ []

-- behind an edit by an author that gives this document, of which this is found: the tree before it is past, the oldest of 65 is forgotten, and
-- there is no future
abbrev pub with_edit : OpenState → ℕ → Edit → Document → List Entry → OpenState
with_edit s author edit d found = record s {
  session = after_edit s.session d found;
  history = edited kept_trees s.history d.forest;
  log = noted s.log (inverse_of s.session.document (change_of s.session.document edit));
  turns = with_turn s author (touched edit s.session.document.forest);
}

-- Behind a swap to another set, by which this is found of the document. The document stays; it has no past and no future then, and the turns of
-- authors stay: a swap is none, and touches nothing.
abbrev pub with_swap : OpenState → SchemaSet → List Entry → OpenState
with_swap s set found = record s {
  session = after_swap s.session set found;
  history = opened s.session.document.forest;
  log = cleared s.log;
}

-- where a step goes: the history behind it, the change of the present document that it is, the changes behind it, and what it touches
pub record Step : Type 0 where
  pub history : History Forest
  pub change : Change
  pub log : Log Change
  pub keys : Touched

-- there are as many changes as trees
abbrev pub step_by : Option (History Forest) → Option Change → (Change → Log Change) → (Forest → Change → Touched) → Option Step
step_by (Some h) (Some c) log keys = Some (record { history = h; change = c; log = log c; keys = keys h.present c })
step_by (Some h) None log keys = None
step_by None c log keys = None

-- what an undo touches: what the change touched that it undoes, which was one of the tree behind it
abbrev pub touched_undone : Document → Forest → Change → Touched
touched_undone d behind c = touches (inverse_of d c) behind

-- what a redo touches: what the change touches that it makes again
abbrev pub touched_redone : Document → Forest → Change → Touched
touched_redone d behind c = touches c d.forest

-- none where there is no past
abbrev pub undo_of : OpenState → Option Step
undo_of s =
    step_by (undone s.history) (last_item s.log.past) (λ c. with_undo_answered (with_undo_taken s.log) (inverse_of s.session.document c))
    (touched_undone s.session.document)

-- none where there is no future
abbrev pub redo_of : OpenState → Option Step
redo_of s =
    step_by (redone s.history) (slice_get s.log.future 0) (λ c. with_redo_answered (with_redo_taken s.log) (inverse_of s.session.document c))
    (touched_redone s.session.document)

-- the document behind a step: the next free number never goes back
abbrev pub document_behind : OpenState → Step → Document
document_behind s step = record { forest = step.history.present; next_free = s.session.document.next_free }

-- behind a step, where this is found of the document then, whose names the set has; it is a turn of author 0
abbrev pub with_step : OpenState → Step → List Entry → OpenState
with_step s step found = record s {
  session = after_change s.session (document_behind s step) found;
  history = step.history;
  log = step.log;
  turns = with_turn s 0 step.keys;
}
