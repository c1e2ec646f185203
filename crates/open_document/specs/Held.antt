-- What a workspace keeps.
use Rattle.std.specs.Prelude.{◌≡◌, ◌≤◌, ◌-◌, ◌^◌, ℕ, List, [], false}
use Rattle.compiled_schema.specs.Usable.{IsUsable, set_of}
use Rattle.compiled_schema.specs.declared.compiled.Compiled.{Compiled}
use Rattle.kept_next.specs.Spaces.{HasSpacesNamed}
use Rattle.schema_set.specs.declared.inputs.SchemaInput.{SchemaInput}
use Rattle.session_model.specs.State.{State}
use Rattle.edit_history.specs.Logged.{AreNoLater}
use Rattle.edit_history.specs.History.{opened}
use Rattle.edit_history.specs.Log.{log_of}
use Rattle.edit_history.specs.declared.log.Taken.TheVariants.{Nothing}
use Rattle.edit_history.specs.Meant.{meant_log}
use Rattle.edit_history.specs.Through.{history_through}
use Rattle.edit_history.specs.Through as histories
use Rattle.open_document.specs.State.{Basis, OpenState, WorkState, empty, ready, working, with_documents, kept_trees}
use Rattle.open_document.specs.declared.held.CompiledBasis.{CompiledBasis}
use Rattle.open_document.specs.declared.held.Held.{Held}
use Rattle.open_document.specs.declared.held.Held.TheVariants as held
use Rattle.open_document.specs.declared.held.OpenDocument.{OpenDocument}

abbrev pub basis_of : CompiledBasis → Basis
basis_of basis = with_documents basis.documents.items (set_of basis.set.value)

-- the history is the one that the log leads through
abbrev pub state_of : OpenDocument → OpenState
state_of document = record {
  session = document.session;
  documents = document.documents.items;
  most = document.most;
  history = history_through document.session.document (meant_log document.session.set.names document.log);
  log = meant_log document.session.set.names document.log;
  turns = document.turns.turns;
}

-- a document that was just opened
abbrev pub begun : State → List SchemaInput → ℕ → OpenState
begun session documents most = record {
  session = session;
  documents = documents;
  most = most;
  history = opened session.document.forest;
  log = log_of kept_trees [] [] Nothing;
  turns = [];
}

-- the log leads through the history of the document, with room for so many steps, and no step waits for an answer; no turn made a later revision
-- than the present one; and the table of the set has the namespaces that its wildcards name
pub record IsLogged (document : OpenDocument) : Type 0 where
  pub depth : document.log.depth ≡ kept_trees
  pub logged : histories.IsLogged document.session.set.names document.session.document document.log
  pub later : AreNoLater document.turns.turns document.session.revision
  pub within : document.session.revision ≤ 2 ^ 64 - 1
  pub spaced : HasSpacesNamed document.session.set

abbrev pub work_of : Held → WorkState
work_of held.Empty = empty
work_of (held.Ready basis) = ready (basis_of basis)
work_of (held.Working document) = working (state_of document.value)

-- documents may be assessed by a set, and its table has the namespaces that its wildcards name
pub record IsReadySet (c : Compiled) : Type 0 where
  pub usable : IsUsable c
  pub spaced : HasSpacesNamed (set_of c)

-- documents may be assessed by a set that is ready; and while a document is open, its log leads through its history
abbrev pub IsKept : Held → Type 0
IsKept held.Empty = Unit {0}
IsKept (held.Ready basis) = IsReadySet basis.set.value
IsKept (held.Working document) = document.value.session.closed ≡ false → IsLogged document.value
