-- What an edit does to a session.
use Rattle.std.specs.Prelude.{◌≡◌, ◌≢◌, true, false, Result, Ok, Err}
use Rattle.tree_edits.specs.Tests.{edited}
use Rattle.tree_edits.specs.declared.edit.Edit.{Edit}
use Rattle.tree_edits.specs.declared.edit.EditError.TheVariants as edit_errors
use Rattle.what_is_found.specs.IsFound.{IsFound}
use Rattle.session_model.specs.State.{State, with_names, after_edit}
use Rattle.session_model.specs.declared.session.SessionError.{SessionError}
use Rattle.session_model.specs.declared.session.SessionError.TheVariants as errors

-- the edit was made: the document is the one after it, what is found then is found of that document, by the set with its names, and the
-- revision is the next
pub record IsEdited (old : State) (edit : Edit) (new : State) : Type 0 where
  pub open_before : old.closed ≡ false
  pub document_is : edited old.document edit ≡ Ok new.document
  pub found_is : IsFound (with_names old.set new.document.forest) new.document new.found
  pub new_is : new ≡ after_edit old new.document new.found

-- the edit was made; or it was refused, and nothing has changed; or the session was closed, and nothing has changed; or memory was
-- wanting, and the session is closed
abbrev pub Applies : State → Edit → Result (Unit {0}) SessionError → State → Type 0
Applies old edit (Ok done) new = IsEdited old edit new
Applies old edit (Err (errors.Refused e)) new = (old.closed ≡ false) × (edited old.document edit ≡ Err e) × (e ≢ edit_errors.Memory) × (new ≡ old)
Applies old edit (Err errors.Memory) new = (old.closed ≡ false) × (new.closed ≡ true)
Applies old edit (Err errors.Closed) new = (old.closed ≡ true) × (new ≡ old)
