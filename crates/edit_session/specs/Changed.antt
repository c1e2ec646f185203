-- What a change by numbers, such as one that undoes another, does to a session.
use Rattle.std.specs.Prelude.{◌≡◌, ◌≤◌, ℕ, List, true, false, Result, Ok, Err}
use Rattle.tree_rows.specs.Forest.{Document}
use Rattle.assessment.specs.Assessment.{Entry}
use Rattle.compiled_schema.specs.declared.compiled.Compiled.{Compiled}
use Rattle.what_is_found.specs.IsFound.{IsFound}
use Rattle.session_model.specs.State.{State, next_revision}
use Rattle.session_model.specs.Spending.{Counts}
use Rattle.session_model.specs.declared.session.SessionError.{SessionError}
use Rattle.session_model.specs.declared.session.SessionError.TheVariants as errors
use Rattle.tree_edits.specs.Inverses.{Change, changed, Fits}
use Rattle.doc_nodes.specs.Nodes.{Nodes}
use Rattle.doc_tree.specs.Changes.{Means}
use Rattle.doc_tree.specs.declared.change.Change as numbered
use Rattle.kept_inverses.specs.from_kept_state.KeptState.{KeptState}
use Rattle.edit_session.specs.Costs.{change_cost}
use Rattle.edit_session.specs.Held.{document_in, IsPresent}

-- what a call has answered, without the change that undoes it
abbrev pub forgotten : {T : Type 0} → Result T SessionError → Result (Unit {0}) SessionError
forgotten (Ok back) = Ok tt
forgotten (Err e) = Err e

-- while the session is not closed, the change is this one of its document, and can be made of it
abbrev pub CanChange : State → numbered.Change → Change → Type 0
CanChange s change c = s.closed ≡ false → Means s.set.names change c × Fits s.document c

-- behind a change that gives this document, of which this is found; the set has its names already
abbrev pub after_change : State → Document → List Entry → State
after_change s d found = record s { document = d; found = found; revision = next_revision s.revision; closed = false }

-- the change was made: what is found then is found of the changed document, by the set as it was, and the revision is the next
pub record IsChanged (old : State) (c : Change) (new : State) : Type 0 where
  pub open_before : old.closed ≡ false
  pub found_is : IsFound old.set (changed old.document c) new.found
  pub new_is : new ≡ after_change old (changed old.document c) new.found

-- the change was made; or the session was closed, and nothing has changed; or memory was wanting, and the session is closed
abbrev pub Changes : {T : Type 0} → State → Change → Result T SessionError → State → Type 0
Changes old c (Ok back) new = IsChanged old c new
Changes old c (Err (errors.Refused e)) new = ⊥
Changes old c (Err errors.Memory) new = (old.closed ≡ false) × (new.closed ≡ true)
Changes old c (Err errors.Closed) new = (old.closed ≡ true) × (new ≡ old)

-- whatever is found of the changed document, no more steps were counted than the change might have taken then
abbrev pub TakesWithin : State → Change → ℕ → ℕ → Type 0
TakesWithin s c old new = (found : List Entry) → IsFound s.set (changed s.document c) found → Counts old new (change_cost s c (after_change s (changed s.document c) found))

-- a change that is made counts so many steps at most, and so does one that ended in want of memory
abbrev pub SpendsOn : {T : Type 0} → State → Change → Result T SessionError → State → ℕ → ℕ → Type 0
SpendsOn s c (Ok back) after old new = Counts old new (change_cost s c after)
SpendsOn s c (Err (errors.Refused e)) after old new = ⊥
SpendsOn s c (Err errors.Memory) after old new = (old ≤ new) × TakesWithin s c old new
SpendsOn s c (Err errors.Closed) after old new = new ≡ old

-- the change was made of the nodes, and all that is kept is right
pub record IsReached (set : Compiled) (ns ms : Nodes) (k : KeptState) (c : Change) : Type 0 where
  pub document_is : document_in set ms ≡ changed (document_in set ns) c
  pub present : IsPresent set ms k
