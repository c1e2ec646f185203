-- A document is the present one of its history behind any commands.
use Rattle.std.proofs.Common.{◌≡◌, ℕ, Bool, true, false, List, [], ◌∷◌, Option, Some, None, Result, Ok, Err, refl, sym, subst}
use Rattle.tree_rows.specs.Forest.{Document}
use Rattle.tree_edits.specs.Tests.{edited}
use Rattle.tree_edits.specs.declared.edit.Edit.{Edit}
use Rattle.tree_edits.specs.declared.edit.EditError.{EditError}
use Rattle.edit_script.specs.Commands.{command}
use Rattle.edit_script.specs.declared.command.Command.{Command}
use Rattle.edit_script.specs.declared.command.Command.TheVariants as commands
use Rattle.edit_script.specs.declared.command.ScriptFault.{ScriptFault}
use Rattle.told.specs.Told.{Said}
use Rattle.stream_answers.specs.from_open_document.Replies.{is_section, no_past, no_future, child_count}
use Rattle.stream_answers.specs.from_edit_session.Around.{asked_at}
use Rattle.stream_answers.specs.from_edit_session.AroundError.{AroundError}
use Rattle.kept_next.specs.Answers.{PlaceQuestion}
use Rattle.told.specs.Outcomes.{SetOutcome, accepted, broken}
use Rattle.stream_answers.specs.from_open_document.State.{OpenState}
use Rattle.stream_answers.specs.from_open_document.Touches.{turn_fault}
use Rattle.stream_answers.specs.from_open_document.TurnFault.{TurnFault}
use Rattle.stream_answers.specs.from_open_document.Steps.{Step, undo_of, redo_of}
use Rattle.stream_sections.specs.Spelled.{Order}
use Rattle.xsv_run.specs.Complete.{IsEditReply, IsTurnReply, IsSetReply, IsSwapReply, IsStepReply, IsNextReply, IsReply, AreReplies, IsPresent}

module _ (s : OpenState) (own : Said) (next : OpenState) (present : IsPresent s) where
  stays : {P : Type 0} → P × (next ≡ s) → IsPresent next
  stays h = subst IsPresent (sym h.1) present

  edit_present : (author : ℕ) (edit : Edit) (r : Result Document EditError) → IsEditReply s author edit r own next → IsPresent next
  edit_present author edit (Ok d) h = subst IsPresent (sym h.3) refl
  edit_present author edit (Err e) h = stays h

  turn_present : (author : ℕ) (edit : Edit) (fault : Option TurnFault) → IsTurnReply s author edit fault own next → IsPresent next
  turn_present author edit (Some fault) h = stays h
  turn_present author edit None h = edit_present author edit (edited s.session.document edit) h

  step_present : (step : Option Step) (refused : List ℕ) → IsStepReply s step refused own next → IsPresent next
  step_present (Some step) refused h = subst IsPresent (sym h.3) refl
  step_present None refused h = stays h

  next_present : (children : ℕ) (r : Result PlaceQuestion AroundError) → IsNextReply s children r own next → IsPresent next
  next_present children (Ok question) h = subst IsPresent (sym h.3) present
  next_present children (Err e) h = stays h

  set_present : (o : SetOutcome) → IsSetReply s o own next → IsPresent next
  set_present (accepted set) h = subst IsPresent (sym h.3) refl
  set_present (broken fault) h = stays h

  swap_present : (number : ℕ) (there : Bool) → IsSwapReply s number there own next → IsPresent next
  swap_present number true h = set_present h.0 h.2
  swap_present number false h = stays h

  reply_present : (r : Result Command ScriptFault) → IsReply s r own next → IsPresent next
  reply_present (Ok (commands.Change edit)) h = edit_present 0 edit (edited s.session.document edit) h
  reply_present (Ok (commands.Assess node)) h = stays h
  reply_present (Ok commands.Errors) h = stays h
  reply_present (Ok commands.Report) h = stays h
  reply_present (Ok commands.Total) h = stays h
  reply_present (Ok commands.Undo) h = step_present (undo_of s) no_past h
  reply_present (Ok commands.Redo) h = step_present (redo_of s) no_future h
  reply_present (Ok (commands.Next parent place)) h = next_present (child_count s.session parent) (asked_at s.session parent place) h
  reply_present (Ok (commands.Swap number)) h = swap_present number (is_section s.documents number) h
  reply_present (Ok (commands.Turn author seen edit)) h = turn_present author edit (turn_fault s author seen edit) h
  reply_present (Err fault) h = stays h

pub replies_present : (s : OpenState) (orders : List Order) (all : Said) (last : OpenState) → AreReplies s orders all last → IsPresent s → IsPresent last
replies_present s [] all last h present = subst IsPresent (sym h.1) present
replies_present s (o ∷ more) all last h present =
    replies_present h.1 more h.2 last h.4 (reply_present s h.0 h.1 present (command o.line o.block) h.3)
