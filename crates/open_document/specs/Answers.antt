-- What schema documents come to, what is written of an open document, and what is told of a command.
use Rattle.std.specs.Prelude.{◌≡◌, ℕ, List, [], Option, None}
use Rattle.item_listing.specs.declared.item.Item.{Item}
use Rattle.tree_rows.specs.Forest.{Document}
use Rattle.edit_script.specs.Commands.{command}
use Rattle.xs_components.specs.declared.common.Rules.TheVariants.{V10}
use Rattle.assessment.specs.Assessment.{Entry}
use Rattle.schema_set.specs.declared.inputs.SchemaInput.{SchemaInput}
use Rattle.what_is_found.specs.IsFound.{IsFound}
use Rattle.session_model.specs.Asking.{code_total, root_validity}
use Rattle.session_model.specs.State as sessions
use Rattle.session_model.specs.State.{with_names}
use Rattle.edit_session.specs.Costs as costs
use Rattle.told.specs.Outcomes.{Question, SetOutcome, accepted, broken, IsOutcomeOf}
use Rattle.told.specs.Told.{Told}
use Rattle.open_document.specs.Replies.{line_told, made_reply, report_reply}
use Rattle.edit_history.specs.History as histories
use Rattle.edit_history.specs.Log.{log_of}
use Rattle.edit_history.specs.declared.log.Taken.TheVariants.{Nothing}
use Rattle.open_document.specs.State.{Basis, OpenState, WorkState, ready, working, with_documents, kept_trees}
use Rattle.open_document.specs.declared.verdict.SetVerdict.{SetVerdict}
use Rattle.open_document.specs.declared.verdict.SetVerdict.TheVariants.{Accepted, Broken}
use Rattle.open_document.specs.declared.verdict.Verdict.{Verdict}

-- ---- schema documents

-- a set starts at the first of them, and is read by the rules of XML Schema 1.0
abbrev pub question : List SchemaInput → Question
question documents = record { documents = documents; start = 0; rules = V10 }

-- what is told of what schema documents come to
abbrev pub verdict_of : SetOutcome → SetVerdict
verdict_of (accepted set) = Accepted
verdict_of (broken fault) = Broken fault

-- a set that is accepted is worked by from then on, and the documents are kept with it
abbrev pub work_after : WorkState → List SchemaInput → SetOutcome → WorkState
work_after work documents (accepted set) = ready (with_documents documents set)
work_after work documents (broken fault) = work

-- schema documents were compiled: one of their outcomes is told and worked by
pub record IsCompiled (documents : List SchemaInput) (old : WorkState) (told : SetVerdict) (new : WorkState) : Type 0 where
  pub outcome : SetOutcome
  pub is_outcome : IsOutcomeOf (question documents) outcome
  pub told_is : told ≡ verdict_of outcome
  pub work_is : new ≡ work_after old documents outcome

-- ---- an open document

-- A document that was just opened by a schema set, whose table gets the names of the document, and of which this is found; its revision is 0, and
-- its history has no past and no future, and no author has taken a turn. So many record lines a question for those with a code is answered by at most.
abbrev pub opened : ℕ → Basis → Document → List Entry → OpenState
opened most basis d found = record {
  session = sessions.opened basis.set d found;
  documents = basis.documents;
  most = most;
  history = histories.opened d.forest;
  log = log_of kept_trees [] [] Nothing;
  turns = [];
}

-- so many steps it takes to open a document, at most
abbrev pub opening_cost : Document → ℕ
opening_cost d = costs.opening_cost d

-- a document was opened by a set: what is found stands in its state
pub record IsOpenedBy (most : ℕ) (basis : Basis) (d : Document) (work : WorkState) : Type 0 where
  pub document : OpenState
  pub work_is : work ≡ working document
  pub found_is : IsFound (with_names basis.set d.forest) d document.session.found
  pub document_is : document ≡ opened most basis d document.session.found

-- what is told of a command with its block, and behind it
abbrev pub command_told : OpenState → List ℕ → Option (List Item) → (OpenState → Told) → Told
command_told s line block next = line_told s (command line block) next

-- the report: the record lines of each element and attribute, and how many codes there are
abbrev pub report : OpenState → List ℕ
report s = report_reply None s.session

-- the first line of a session
abbrev pub first_line : OpenState → List ℕ
first_line s = made_reply s.session

-- what the last line tells
abbrev pub verdict : OpenState → Verdict
verdict s = record { validity = root_validity s.session.found; total = code_total s.session.found }
