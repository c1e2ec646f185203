-- What contracts see of a session.
use Rattle.std.specs.Prelude.{◌≡◌, ℕ, ◌+◌, ◌-◌, ◌^◌, min, List, Bool, false}
use Rattle.tree_rows.specs.Forest.{Forest, Document}
use Rattle.assessment.specs.Attribution.{SchemaSet}
use Rattle.assessment.specs.Assessment.{Entry}
use Rattle.plain_tree.specs.Table.{document_table}
use Rattle.what_is_found.specs.IsFound.{IsFound}

-- The schema set, whose table of names has those of the document, the document, what is found out about its elements, in document order, how
-- many edits were made, and whether want of memory has closed it. What is found is the assessment of the present document by the set while it
-- is not closed; of a closed session it is not stated.
pub record State : Type 0 where
  pub set : SchemaSet
  pub document : Document
  pub found : List Entry
  pub revision : ℕ
  pub closed : Bool

-- the set with the names of a document in its table
abbrev pub with_names : SchemaSet → Forest → SchemaSet
with_names s f = record s { names = document_table s.names f }

-- the next revision, which stays at its last value
abbrev pub next_revision : ℕ → ℕ
next_revision revision = min (revision + 1) (2 ^ 64 - 1)

-- just opened over a document, of which this is found
abbrev pub opened : SchemaSet → Document → List Entry → State
opened s d found = record { set = with_names s d.forest; document = d; found = found; revision = 0; closed = false }

-- behind an edit that gives this document, of which this is found
abbrev pub after_edit : State → Document → List Entry → State
after_edit s d found = record { set = with_names s.set d.forest; document = d; found = found; revision = next_revision s.revision; closed = false }

-- a session was opened over a document by a set, and this state is its
pub record IsOpened (s : SchemaSet) (d : Document) (new : State) : Type 0 where
  pub found_is : IsFound (with_names s d.forest) d new.found
  pub new_is : new ≡ opened s d new.found
