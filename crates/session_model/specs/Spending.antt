-- How many steps are counted.
use Rattle.std.specs.Prelude.{◌≡◌, ◌≤◌, ◌+◌, ℕ, List, Result, Ok, Err}
use Rattle.tree_rows.specs.Forest.{Document}
use Rattle.tree_edits.specs.Tests.{edited}
use Rattle.tree_edits.specs.declared.edit.Edit.{Edit}
use Rattle.tree_edits.specs.declared.edit.EditError.{EditError}
use Rattle.assessment.specs.Assessment.{Entry}
use Rattle.what_is_found.specs.IsFound.{IsFound}
use Rattle.session_model.specs.State.{State, with_names, after_edit}
use Rattle.session_model.specs.declared.session.SessionError.{SessionError}
use Rattle.session_model.specs.declared.session.SessionError.TheVariants as errors

-- so many steps at most
pub record Counts (old new most : ℕ) : Type 0 where
  pub later : old ≤ new
  pub few : new ≤ old + most

-- where an edit has this budget, by the states before and after it
module _ (budget : State → Edit → State → ℕ) where
  -- An edit ended in want of memory: whatever is found of the document after it, no more steps were counted than it might have taken then;
  -- and none where it would have been refused.
  abbrev pub BreaksWithin : State → Edit → Result Document EditError → ℕ → ℕ → Type 0
  BreaksWithin s edit (Ok d) old new = (found : List Entry) → IsFound (with_names s.set d.forest) d found → Counts old new (budget s edit (after_edit s d found))
  BreaksWithin s edit (Err e) old new = new ≡ old

  -- an edit that is made counts so many steps at most; one that is refused counts none
  abbrev pub Spends : State → Edit → Result (Unit {0}) SessionError → State → ℕ → ℕ → Type 0
  Spends s edit (Ok done) after old new = Counts old new (budget s edit after)
  Spends s edit (Err (errors.Refused e)) after old new = new ≡ old
  Spends s edit (Err errors.Memory) after old new = (old ≤ new) × BreaksWithin s edit (edited s.document edit) old new
  Spends s edit (Err errors.Closed) after old new = new ≡ old
