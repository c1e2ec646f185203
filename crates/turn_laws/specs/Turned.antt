-- What the answers to lines touch: an undo what the edit touched that it undoes, a redo what the edit touched that it makes again.
use Rattle.std.specs.Prelude.{◌≡◌, ◌⊎◌, ℕ, List, [], ◌∷◌, Option, Some, None, slice_get, Result, Ok, Err}
use Rattle.circular_buffer.specs.Buffer.{last_item}
use Rattle.tree_rows.specs.Forest.{Document}
use Rattle.tree_edits.specs.Tests.{edited}
use Rattle.tree_edits.specs.declared.edit.Edit.{Edit}
use Rattle.tree_edits.specs.declared.edit.EditError.{EditError}
use Rattle.edit_script.specs.declared.command.Command.TheVariants as commands
use Rattle.assessment.specs.Assessment.{Entry}
use Rattle.assessment.specs.Attribution.{SchemaSet}
use Rattle.edit_history.specs.declared.touched.Touched.{Touched}
use Rattle.edit_history.specs.Log.{Log, cleared, noted, with_undo_taken, with_undo_answered, with_redo_taken, with_redo_answered}
use Rattle.told.specs.Told.{Said}
use Rattle.xsv_run.specs.from_open_document.State.{OpenState}
use Rattle.xsv_run.specs.from_open_document.Steps.{with_turn, with_swap}
use Rattle.xsv_run.specs.from_open_document.Touches.{touched, turn_fault}
use Rattle.xsv_run.specs.from_open_document.TurnFault.{TurnFault}
use Rattle.xsv_run.specs.Authors.{Read}
use Rattle.xsv_run.specs.Complete.{IsReply}

-- Beside the steps that can be undone and redone stands what the edits touched that they undo and make again.

-- no turn is taken, and the steps stay
abbrev pub IsNoTurn : OpenState → Log Touched → OpenState → Log Touched → Type 0
IsNoTurn s keys next behind = (next.turns ≡ s.turns) × (behind ≡ keys)

-- an edit by an author that gives this document touches what it says, and can be undone; or it is refused
abbrev pub IsEditTurn : OpenState → ℕ → Edit → Result Document EditError → Log Touched → OpenState → Log Touched → Type 0
IsEditTurn s author edit (Ok d) keys next behind =
    (next.turns ≡ with_turn s author (touched edit s.session.document.forest)) × (behind ≡ noted keys (touched edit s.session.document.forest))
IsEditTurn s author edit (Err e) keys next behind = IsNoTurn s keys next behind

abbrev pub IsAuthorTurn : OpenState → ℕ → Edit → Option TurnFault → Log Touched → OpenState → Log Touched → Type 0
IsAuthorTurn s author edit (Some fault) keys next behind = IsNoTurn s keys next behind
IsAuthorTurn s author edit None keys next behind = IsEditTurn s author edit (edited s.session.document edit) keys next behind

-- a step of which the edit touched this touches the same, as a turn of author 0; or there is none
abbrev pub IsStepTurn : OpenState → Option Touched → (Touched → Log Touched) → Log Touched → OpenState → Log Touched → Type 0
IsStepTurn s (Some own) taken keys next behind = (next.turns ≡ with_turn s 0 own) × (behind ≡ taken own)
IsStepTurn s None taken keys next behind = IsNoTurn s keys next behind

-- a swap is no turn; one that is made leaves nothing to be undone or redone
abbrev pub IsSwapTurn : OpenState → Log Touched → OpenState → Log Touched → Type 0
IsSwapTurn s keys next behind =
    (next.turns ≡ s.turns)
    × (((next ≡ s) × (behind ≡ keys)) ⊎ ((set : SchemaSet) × (found : List Entry) × (next ≡ with_swap s set found) × (behind ≡ cleared keys)))

-- the turn that is taken by the answer to a line, if one is, and the steps behind it
abbrev pub IsTurn : OpenState → Read → Log Touched → OpenState → Log Touched → Type 0
IsTurn s (Ok (commands.Change edit)) keys next behind = IsEditTurn s 0 edit (edited s.session.document edit) keys next behind
IsTurn s (Ok (commands.Assess node)) keys next behind = IsNoTurn s keys next behind
IsTurn s (Ok commands.Errors) keys next behind = IsNoTurn s keys next behind
IsTurn s (Ok commands.Report) keys next behind = IsNoTurn s keys next behind
IsTurn s (Ok commands.Total) keys next behind = IsNoTurn s keys next behind
IsTurn s (Ok commands.Undo) keys next behind = IsStepTurn s (last_item keys.past) (λ own. with_undo_answered (with_undo_taken keys) own) keys next behind
IsTurn s (Ok commands.Redo) keys next behind = IsStepTurn s (slice_get keys.future 0) (λ own. with_redo_answered (with_redo_taken keys) own) keys next behind
IsTurn s (Ok (commands.Next parent place)) keys next behind = IsNoTurn s keys next behind
IsTurn s (Ok (commands.Swap number)) keys next behind = IsSwapTurn s keys next behind
IsTurn s (Ok (commands.Turn author seen edit)) keys next behind = IsAuthorTurn s author edit (turn_fault s author seen edit) keys next behind
IsTurn s (Err fault) keys next behind = IsNoTurn s keys next behind

-- of lines and their answers, one behind another
abbrev pub AreTurns : OpenState → Log Touched → List Read → List Said → OpenState → Type 0
AreTurns s keys [] [] last = last ≡ s
AreTurns s keys [] (own ∷ more) last = ⊥
AreTurns s keys (read ∷ reads) [] last = ⊥
AreTurns s keys (read ∷ reads) (own ∷ more) last =
    (next : OpenState) × (behind : Log Touched) × IsReply s read own next × IsTurn s read keys next behind × AreTurns next behind reads more last
