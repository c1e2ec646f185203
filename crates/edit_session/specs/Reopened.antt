-- What another schema set does to a session.
use Rattle.std.specs.Prelude.{◌≡◌, ℕ, List, true, false, Result, Ok, Err}
use Rattle.assessment.specs.Assessment.{Entry}
use Rattle.assessment.specs.Attribution.{SchemaSet}
use Rattle.edit_budgets.specs.Budget.{opening_budget}
use Rattle.what_is_found.specs.IsFound.{IsFound}
use Rattle.session_model.specs.State.{State, with_names, next_revision}
use Rattle.session_model.specs.declared.session.SessionError.{SessionError}
use Rattle.session_model.specs.declared.session.SessionError.TheVariants as errors

-- behind a swap to a set, by which this is found of the document; its table has the names of the document
abbrev pub after_swap : State → SchemaSet → List Entry → State
after_swap s set found = record s { set = with_names set s.document.forest; found = found; revision = next_revision s.revision; closed = false }

-- the document is as it was, what is found then is found of it by the new set, and the revision is the next
pub record IsReopened (old : State) (set : SchemaSet) (new : State) : Type 0 where
  pub open_before : old.closed ≡ false
  pub found_is : IsFound (with_names set old.document.forest) old.document new.found
  pub new_is : new ≡ after_swap old set new.found

-- the set was swapped; or the session was closed, and nothing has changed; or memory was wanting, and the session is closed
abbrev pub Reopens : State → SchemaSet → Result (Unit {0}) SessionError → State → Type 0
Reopens old set (Ok done) new = IsReopened old set new
Reopens old set (Err (errors.Refused e)) new = ⊥
Reopens old set (Err errors.Memory) new = (old.closed ≡ false) × (new.closed ≡ true)
Reopens old set (Err errors.Closed) new = (old.closed ≡ true) × (new ≡ old)

-- so many steps at most it takes to find the document anew
abbrev pub swap_cost : State → ℕ
swap_cost s = opening_budget s.document
