-- What is told of a stream, by what its items give: schema sections, a document, commands, the end; or a line that is refused. What its schema
-- documents come to is asked, and what is found of its document is looked at, since relations say these.
use Rattle.std.specs.Prelude.{ℕ, List, [], ◌∷◌, ◌++◌, map, Some, None, codes}
use Rattle.std.specs.Fmt.{decimal}
use Rattle.tree_rows.specs.Forest.{Document}
use Rattle.item_listing.specs.Listed.{Listed}
use Rattle.xs_components.specs.declared.common.Rules.{Rules}
use Rattle.xs_components.specs.declared.common.Rules.TheVariants.{V10}
use Rattle.assess_records.specs.declared.outcome.Validity.{Validity}
use Rattle.assess_records.specs.declared.outcome.Validity.TheVariants as validities
use Rattle.assessment.specs.Attribution.{SchemaSet}
use Rattle.schema_set.specs.declared.inputs.SchemaInput.{SchemaInput}
use Rattle.report_text.specs.Words.{validity_word}
use Rattle.session_model.specs.State.{with_names}
use Rattle.told.specs.Outcomes.{Question, SetOutcome, accepted, broken}
use Rattle.told.specs.Told.{free, Told, over, says, asks, looks}
use Rattle.told.specs.declared.ending.Ending.{Ending}
use Rattle.told.specs.declared.ending.Ending.TheVariants.{Valid, NotValid}
use Rattle.open_document.specs.State.{Basis, OpenState, with_documents}
use Rattle.open_document.specs.Answers.{opened, opening_cost, report, first_line, command_told, verdict}
use Rattle.open_document.specs.declared.verdict.Verdict.{Verdict}
use Rattle.stream_sections.specs.Sections as sections
use Rattle.stream_sections.specs.Sections.{Stop, Closing, Commands, Opened, Stream}
use Rattle.stream_sections.specs.declared.asked.Asked.{Asked}
use Rattle.stream_sections.specs.declared.asked.Asked.TheVariants.{Check, Assess, Session}
use Rattle.stream_sections.specs.declared.schemas.SchemaSection.{SchemaSection}
use Rattle.stream_answers.specs.Faults.{fault_line, fault_ending}
use Rattle.stream_answers.specs.Refusals.{refusal_line, refusal_ending}
use Rattle.stream_answers.specs.declared.wanted.Wanted.{Wanted}

-- this is written last, and the stream has ended so
abbrev pub ends : List ℕ → Ending → Told
ends text ending = says (free text) (over (Some ending))

-- a line is refused, or further items may come
abbrev pub stop_told : Stop → Told
stop_told (sections.refused spot) = ends (refusal_line spot.line spot.refusal) (refusal_ending spot.refusal)
stop_told sections.goes_on = over None

-- behind the line `end`
abbrev pub closing_told : Told → Closing → Told
closing_told last sections.ended = last
closing_told last (sections.unclosed stop) = stop_told stop

-- how a stream ends, by the root's validity
abbrev pub ending_of : Validity → Ending
ending_of validities.Valid = Valid
ending_of validities.Invalid = NotValid
ending_of validities.NotKnown = NotValid

-- the last line
abbrev pub end_line : Verdict → List ℕ
end_line v = codes "end " ++ validity_word v.validity ++ codes " " ++ decimal v.total ++ 10 ∷ []

-- the last line, and the ending by the root
abbrev pub verdict_told : Verdict → Told
verdict_told v = ends (end_line v) (ending_of v.validity)

-- ---- schema documents

abbrev pub schema_ok : List ℕ
schema_ok = codes "schema ok" ++ 10 ∷ []

-- the documents of the schema sections
abbrev pub input_of : SchemaSection → SchemaInput
input_of s = record { tree = s.tree; locations = s.locations }

abbrev pub inputs : List SchemaSection → List SchemaInput
inputs all = map input_of all

-- the set that starts at the section of this place is asked for, by these rules
abbrev pub question_by : Rules → ℕ → List SchemaSection → Question
question_by rules start all = record { documents = inputs all; start = start; rules = rules }

-- A stream is read by the rules of XML Schema 1.0, and its set starts at the first schema section.
abbrev pub question_of : List SchemaSection → Question
question_of all = question_by V10 0 all

-- the schema set is accepted, or its first broken constraint is named
abbrev pub compiled_told : (SchemaSet → Told) → SetOutcome → Told
compiled_told next (accepted set) = says (free schema_ok) (next set)
compiled_told next (broken fault) = ends (fault_line fault) (fault_ending fault)

-- documents are assessed by the set, with which the schema documents are kept
abbrev pub stream_told : {Rest : Type 0} → (Basis → Rest → Told) → Stream Rest → Told
stream_told rest_told (sections.schemas all rest) = asks (question_of all) (compiled_told (λ set. rest_told (with_documents (inputs all) set) rest))
stream_told rest_told (sections.unfinished stop) = stop_told stop

-- a stream for `check` has no document
abbrev pub check_told : Basis → Closing → Told
check_told basis closing = closing_told (over (Some Valid)) closing

-- ---- the document and its commands

-- the replies, one after another
abbrev pub commands_told : OpenState → Commands → Told
commands_told s (sections.command line block more) = command_told s line block (λ next. commands_told next more)
commands_told s (sections.closes closing) = closing_told (verdict_told (verdict s)) closing
commands_told s (sections.uncommanded stop) = stop_told stop

-- what is written of the document that was opened: the report, or the first line of a session
abbrev pub opening : Asked → OpenState → List ℕ
opening Check s = []
opening Assess s = report s
opening Session s = first_line s

-- a document is opened by a schema set, and what is told behind it
abbrev pub opening_told : Wanted → Basis → Document → (OpenState → Told) → Told
opening_told w basis d next = looks (with_names basis.set d.forest) d (λ found. says
    (record { text = opening w.asked (opened w.most basis d found); cost = opening_cost d }) (next (opened w.most basis d found)))

abbrev pub opened_told : Wanted → Basis → Opened → Told
opened_told w basis (sections.document d more) = opening_told w basis d (λ s. commands_told s more)
opened_told w basis (sections.undocumented stop) = stop_told stop

-- what is told of items where the stream has these sections
abbrev pub told_for : Wanted → Asked → Listed → Told
told_for w Check its = stream_told check_told (sections.schemas_alone Check its)
told_for w Assess its = stream_told (opened_told w) (sections.with_document Assess its)
told_for w Session its = stream_told (opened_told w) (sections.with_document Session its)

-- what is told of items, by what they give
abbrev pub sections_told : Wanted → Listed → Told
sections_told w its = told_for w w.asked its
