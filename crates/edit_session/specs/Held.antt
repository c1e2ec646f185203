-- What a session that keeps its records holds, and what contracts see of it.
use Rattle.std.specs.Prelude.{◌≡◌, ℕ, List, Bool, false}
use Rattle.tree_rows.specs.Forest.{Document}
use Rattle.assessment.specs.Assessment.{Entry, entries}
use Rattle.compiled_schema.specs.Usable.{set_of}
use Rattle.compiled_schema.specs.declared.compiled.Compiled.{Compiled}
use Rattle.session_model.specs.State.{State}
use Rattle.doc_nodes.specs.Nodes.{Nodes}
use Rattle.doc_changes.specs.Stands.{StandsFor}
use Rattle.doc_changes.specs.Documents.{document_of}
use Rattle.kept_inverses.specs.from_kept_records.Found.{SaysFound, found_in}
use Rattle.kept_inverses.specs.from_kept_state.KeptState.{KeptState}
use Rattle.kept_keys.specs.Keys.{AreTargetsBy, IsWhole}
use Rattle.edit_session.specs.declared.session.EditSession.TheInside.{Inside}

module _ (c : Compiled) (ns : Nodes) where
  -- the document of the nodes, by the names of the set
  abbrev pub document_in : Document
  document_in = document_of c.names ns

  -- the nodes stand for a document by names of the set
  abbrev pub Stands : Type 0
  Stands = (d : Document) × StandsFor c.names ns d

  -- what is kept of the document's elements, in document order
  abbrev pub found_by : KeptState → List Entry
  found_by k = entries (found_in ns k.records.slots document_in.forest)

  -- all that is kept is right from the root on, with the codes of identity constraints (Structures 3.11.4) and of IDs (3.3.4) that are to
  -- be said
  pub record IsPresent (k : KeptState) : Type 0 where
    pub whole : IsWhole c ns k
    pub says : SaysFound c ns k.records.slots k.root_ids document_in

  abbrev pub state_by : KeptState → ℕ → Bool → State
  state_by k revision closed = record { set = set_of c; document = document_in; found = found_by k; revision = revision; closed = closed }

abbrev pub state_of : Inside → State
state_of s = state_by s.set.value s.doc s.kept s.revision s.closed

-- the nodes stand for a document; and while the session is not closed, all that is kept is right, and what is counted of targets
pub record IsHeld (s : Inside) : Type 0 where
  pub stands : Stands s.set.value s.doc
  pub present : s.closed ≡ false → IsPresent s.set.value s.doc s.kept
  pub targets : s.closed ≡ false → AreTargetsBy s.set.value s.doc s.kept.records.slots s.keys
