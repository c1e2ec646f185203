-- The replies to the lines of an edit script, and what is told of these lines.
use Rattle.std.specs.Prelude.{ℕ, ◌-◌, List, [], ◌∷◌, ◌++◌, length, Bool, true, false, ◌&&◌, nat_lt, nat_le, Option, Some, None, Result, Ok, Err, codes}
use Rattle.std.specs.Fmt.{decimal}
use Rattle.tree_rows.specs.Forest.{Document}
use Rattle.tree_rows.specs.Kinds.{kind_of}
use Rattle.tree_rows.specs.declared.row.NodeKind.{NodeKind}
use Rattle.tree_rows.specs.declared.row.NodeKind.TheVariants.{Element, Chars}
use Rattle.tree_edits.specs.Edits.{width}
use Rattle.tree_edits.specs.Refusals as refusals
use Rattle.tree_edits.specs.Tests.{edited}
use Rattle.tree_edits.specs.declared.edit.Edit.{Edit}
use Rattle.tree_edits.specs.declared.edit.EditError.{EditError}
use Rattle.edit_script.specs.Faults as faults
use Rattle.edit_script.specs.declared.command.Command.{Command}
use Rattle.edit_script.specs.declared.command.Command.TheVariants as commands
use Rattle.edit_script.specs.declared.command.ScriptFault.{ScriptFault}
use Rattle.assessment.specs.Assessment.{Entry}
use Rattle.assessment.specs.Attribution.{SchemaSet}
use Rattle.session_model.specs.Asking.{entry_at, code_total}
use Rattle.session_model.specs.Reports.{entry_text, report}
use Rattle.session_model.specs.State.{State, with_names, after_edit}
use Rattle.tree_edits.specs.Inverses.{Change}
use Rattle.edit_session.specs.Changed.{after_change}
use Rattle.edit_session.specs.Costs.{edit_cost, change_cost}
use Rattle.edit_session.specs.Around as around
use Rattle.edit_session.specs.Around.{asked_at, children_at}
use Rattle.edit_session.specs.declared.around.AroundError.{AroundError}
use Rattle.kept_next.specs.Answers.{PlaceQuestion, Answer, reply, cost}
use Rattle.told.specs.Told.{Said, free, Told, says, asks, looks, tries}
use Rattle.told.specs.Outcomes.{Question, SetOutcome, accepted, broken}
use Rattle.xs_codes.specs.Codes.{text_of}
use Rattle.xs_codes.specs.declared.fault.Fault.{Fault}
use Rattle.xs_components.specs.declared.common.Rules.TheVariants.{V10}
use Rattle.schema_set.specs.declared.inputs.SchemaInput.{SchemaInput}
use Rattle.edit_session.specs.Reopened.{after_swap, swap_cost}
use Rattle.open_document.specs.State.{OpenState}
use Rattle.open_document.specs.Touches.{turn_fault}
use Rattle.open_document.specs.declared.touches.TurnFault.{TurnFault}
use Rattle.open_document.specs.declared.touches.TurnFault.TheVariants.{BadRevision, Stale}
use Rattle.open_document.specs.Steps.{Step, undo_of, redo_of, document_behind, with_edit, with_step, with_swap}

-- ---- what is written

abbrev pub refusal : ℕ → List ℕ → List ℕ
refusal number name = codes "no " ++ decimal number ++ codes " " ++ name ++ 10 ∷ []

abbrev pub made : ℕ → ℕ → List ℕ
made revision total = codes "ok " ++ decimal revision ++ codes " " ++ decimal total ++ 10 ∷ []

abbrev pub total_line : ℕ → List ℕ
total_line total = codes "total " ++ decimal total ++ 10 ∷ []

-- why a number is of no element: it is of a text, or of no node
abbrev pub no_element : Option NodeKind → List ℕ
no_element (Some Chars) = refusal 2 (codes "NotElement")
no_element (Some Element) = refusal 1 (codes "UnknownNode")
no_element None = refusal 1 (codes "UnknownNode")

-- the record lines of an element and its attributes
abbrev pub records_reply : SchemaSet → Option NodeKind → Option Entry → List ℕ
records_reply set kind (Some e) = entry_text set e
records_reply set kind None = no_element kind

abbrev pub assess_reply : State → ℕ → List ℕ
assess_reply s node = records_reply s.set (kind_of node s.document.forest) (entry_at node s.found)

abbrev pub total_reply : State → List ℕ
total_reply s = total_line (code_total s.found)

-- the record lines of all elements and attributes, or so many at most of those that have a code; and the number of all codes
abbrev pub report_reply : Option ℕ → State → List ℕ
report_reply most s = report most s ++ total_reply s

-- the revision, and the number of codes
abbrev pub made_reply : State → List ℕ
made_reply s = made s.revision (code_total s.found)

-- no tree was before the present one, or was left by undoing
abbrev pub no_past : List ℕ
no_past = refusal 30 (codes "NothingToUndo")

abbrev pub no_future : List ℕ
no_future = refusal 31 (codes "NothingToRedo")

-- the revision that an author had seen is none yet, or another author has touched the same since
abbrev pub turn_refusal : TurnFault → List ℕ
turn_refusal BadRevision = refusal 35 (codes "BadRevision")
turn_refusal (Stale revision) = codes "no 36 Stale " ++ decimal revision ++ 10 ∷ []

-- no schema section has the number
abbrev pub no_section : List ℕ
no_section = refusal 33 (codes "NoSection")

-- the first constraint that the set breaks that starts at the section: the number of the section of its document, that of the element in it, and the
-- code
abbrev pub set_refused : Fault → List ℕ
set_refused fault =
    codes "no 34 SetRefused " ++ decimal fault.document ++ codes " " ++ decimal fault.item ++ codes " " ++ text_of fault.code ++ 10 ∷ []

-- ---- what is told

-- an edit that is made, behind which what is found is this: the reply, and what it costs
abbrev pub made_said : State → Edit → State → Said
made_said old edit new = record { text = made_reply new; cost = edit_cost old edit new }

-- Of an edit by an author that gives this document, or is refused: what is found of the document is looked at, and the document stands with it
-- then; a refusal changes nothing and costs no step.
abbrev pub edit_told : OpenState → ℕ → Edit → Result Document EditError → (OpenState → Told) → Told
edit_told s author edit (Ok d) next =
    looks (with_names s.session.set d.forest) d
    (λ found. says (made_said s.session edit (after_edit s.session d found)) (next (with_edit s author edit d found)))
edit_told s author edit (Err e) next = says (free (refusal (refusals.number_of e) (refusals.name_of e))) (next s)

-- Of an edit by an author who had seen a revision: where it has a fault, this is said, and nothing changes; else it is an edit as others are.
abbrev pub turn_told : OpenState → ℕ → Edit → Option TurnFault → (OpenState → Told) → Told
turn_told s author edit (Some fault) next = says (free (turn_refusal fault)) (next s)
turn_told s author edit None next = edit_told s author edit (edited s.session.document edit) next

-- a step that is made: the reply, and what the change costs that it is
abbrev pub step_said : State → Change → State → Said
step_said old c new = record { text = made_reply new; cost = change_cost old c new }

-- Of a step: what is found of the document behind it is looked at, and the document stands with it then; where there is no step, this is said,
-- and nothing changes.
abbrev pub step_told : OpenState → Option Step → List ℕ → (OpenState → Told) → Told
step_told s (Some step) refused next =
    looks s.session.set (document_behind s step) (λ found.
    says (step_said s.session step.change (after_change s.session (document_behind s step) found)) (next (with_step s step found)))
step_told s None refused next = says (free refused) (next s)

-- which names may stand at a place among so many children: a line for each symbol that fits, and how many there are
abbrev pub next_said : ℕ → PlaceQuestion → List Answer → Said
next_said children question answers = record { text = reply question.set.names answers; cost = cost children (length answers) }

-- Of a question for what may stand at a place among so many children: how names fit there is tried; or there is no such place. It changes nothing.
abbrev pub next_told : OpenState → ℕ → Result PlaceQuestion AroundError → (OpenState → Told) → Told
next_told s children (Ok question) next = tries question (λ answers. says (next_said children question answers) (next s))
next_told s children (Err e) next = says (free (refusal (around.number_of e) (around.name_of e))) (next s)

-- how many children an element has
abbrev pub child_count : State → ℕ → ℕ
child_count s node = width (children_at s.document node)

-- a swap that is made, behind which this is the session: the reply, and what it costs
abbrev pub swap_said : State → State → Said
swap_said before after = record { text = made_reply after; cost = swap_cost before }

-- another set was asked for: where it breaks a constraint, this is said, and nothing changes; else what is found of the document by it is looked at,
-- and the document stands with it then
abbrev pub swapped_told : OpenState → (OpenState → Told) → SetOutcome → Told
swapped_told s next (accepted set) =
    looks (with_names set s.session.document.forest) s.session.document (λ found.
    says (swap_said s.session (after_swap s.session set found)) (next (with_swap s set found)))
swapped_told s next (broken fault) = says (free (set_refused fault)) (next s)

-- whether a schema section has the number
abbrev pub is_section : List SchemaInput → ℕ → Bool
is_section documents number = nat_lt 0 number && nat_le number (length documents)

-- the set that starts at the section of this number is asked for
abbrev pub swap_question : OpenState → ℕ → Question
swap_question s number = record { documents = s.documents; start = number - 1; rules = V10 }

-- of a swap to the set that starts at the section of this number, by whether there is one
abbrev pub swap_told : OpenState → ℕ → Bool → (OpenState → Told) → Told
swap_told s number true next = asks (swap_question s number) (swapped_told s next)
swap_told s number false next = says (free no_section) (next s)

-- of a line, and what is told behind it: a question, or a line that is no command, changes nothing; an edit without an author is one of author 0
abbrev pub line_told : OpenState → Result Command ScriptFault → (OpenState → Told) → Told
line_told s (Ok (commands.Change edit)) next = edit_told s 0 edit (edited s.session.document edit) next
line_told s (Ok (commands.Assess node)) next = says (free (assess_reply s.session node)) (next s)
line_told s (Ok commands.Errors) next = says (free (report_reply (Some s.most) s.session)) (next s)
line_told s (Ok commands.Report) next = says (free (report_reply None s.session)) (next s)
line_told s (Ok commands.Total) next = says (free (total_reply s.session)) (next s)
line_told s (Ok commands.Undo) next = step_told s (undo_of s) no_past next
line_told s (Ok commands.Redo) next = step_told s (redo_of s) no_future next
line_told s (Ok (commands.Next parent place)) next = next_told s (child_count s.session parent) (asked_at s.session parent place) next
line_told s (Ok (commands.Swap number)) next = swap_told s number (is_section s.documents number) next
line_told s (Ok (commands.Turn author seen edit)) next = turn_told s author edit (turn_fault s author seen edit) next
line_told s (Err fault) next = says (free (refusal (faults.number_of fault) (faults.name_of fault))) (next s)
