-- What a stream works on.
use Rattle.std.specs.Prelude.{◌≡◌, false, ℕ, List}
use Rattle.tree_rows.specs.Forest.{Forest}
use Rattle.tree_edits.specs.Inverses.{Change}
use Rattle.assessment.specs.Attribution.{SchemaSet}
use Rattle.schema_set.specs.declared.inputs.SchemaInput.{SchemaInput}
use Rattle.session_model.specs.State.{State}
use Rattle.edit_history.specs.History.{History}
use Rattle.edit_history.specs.Log.{Log}
use Rattle.edit_history.specs.declared.turn.Turn.{Turn}

-- what documents are assessed by: a schema set, and the schema documents of the stream, of which another set can be asked for
pub record Basis : Type 0 where
  pub set : SchemaSet
  pub documents : List SchemaInput

-- a set, with the documents that it was compiled of
abbrev pub with_documents : List SchemaInput → SchemaSet → Basis
with_documents documents set = record { set = set; documents = documents }

-- A session over a document, the schema documents of the stream, and how many record lines a question for those with a code is answered by at
-- most; the trees that were before the present one and those that were left by undoing; the changes that lead from each to the next, by which
-- goes what going there costs; and the turns of the authors, in order: each edit, undo and redo that was accepted, with the revision that it made. What
-- else commands come to need has its field here.
pub record OpenState : Type 0 where
  pub session : State
  pub documents : List SchemaInput
  pub most : ℕ
  pub history : History Forest
  pub log : Log Change
  pub turns : List Turn

-- so many trees that were before the present one are kept at most
abbrev pub kept_trees : ℕ
kept_trees = 64

-- nothing yet, the schema set that documents are assessed by, or the document that is open
pub data WorkState : Type 0 where
  empty : WorkState
  ready : (basis : Basis) → WorkState
  working : (document : OpenState) → WorkState

-- there is a schema set, and no document yet
abbrev pub IsReady : WorkState → Type 0
IsReady empty = ⊥
IsReady (ready basis) = Unit {0}
IsReady (working s) = ⊥

-- a document is open, and want of memory has not closed it
abbrev pub IsOpen : WorkState → Type 0
IsOpen empty = ⊥
IsOpen (ready basis) = ⊥
IsOpen (working s) = s.session.closed ≡ false
