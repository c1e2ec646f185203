-- Commands of several authors, and the same without their authors.
use Rattle.std.specs.Prelude.{◌≡◌, ℕ, List, [], ◌∷◌, Option, Some, None, Result, Ok, Err}
use Rattle.edit_script.specs.declared.command.Command.{Command}
use Rattle.edit_script.specs.declared.command.Command.TheVariants as commands
use Rattle.edit_script.specs.declared.command.ScriptFault.{ScriptFault}
use Rattle.told.specs.Told.{Said, free}
use Rattle.stream_answers.specs.from_open_document.Replies.{turn_refusal}
use Rattle.stream_answers.specs.from_open_document.State.{OpenState}
use Rattle.stream_answers.specs.from_open_document.Touches.{turn_fault}
use Rattle.stream_answers.specs.from_open_document.TurnFault.{TurnFault}
use Rattle.xsv_run.specs.Complete.{IsReply}

-- what a line was read as
abbrev pub Read : Type 0
Read = Result Command ScriptFault

-- an edit without its author
abbrev pub without_author : Read → Read
without_author (Ok (commands.Turn author seen edit)) = Ok (commands.Change edit)
without_author read = read

-- why a turn is not taken; any other line is answered
abbrev pub fault_of : OpenState → Read → Option TurnFault
fault_of s (Ok (commands.Turn author seen edit)) = turn_fault s author seen edit
fault_of s read = None

-- the same document by all but who took turns
abbrev pub IsAlike : OpenState → OpenState → Type 0
IsAlike s q = q ≡ record s { turns = q.turns }

-- the answers to lines, one behind another, and the document behind them
abbrev pub AreAnswers : OpenState → List Read → List Said → OpenState → Type 0
AreAnswers s [] [] last = last ≡ s
AreAnswers s [] (own ∷ more) last = ⊥
AreAnswers s (read ∷ reads) [] last = ⊥
AreAnswers s (read ∷ reads) (own ∷ more) last = (next : OpenState) × IsReply s read own next × AreAnswers next reads more last

-- a line and its answer are left out where it is a turn that is not taken; else it is one of these without its author, with the same answer
abbrev pub IsPlainBy : Option TurnFault → OpenState → Read → Said → (OpenState → List Read → List Said → Type 0) → List Read → List Said → Type 0
IsPlainBy (Some fault) s read own Rest plain answers = (own ≡ free (turn_refusal fault)) × Rest s plain answers
IsPlainBy None s read own Rest plain answers =
    (next : OpenState) × (others : List Read) × (later : List Said) × IsReply s read own next × (plain ≡ without_author read ∷ others) × (answers ≡ own ∷ later)
    × Rest next others later

-- these are the lines without those turns that are not taken, and without authors, with their answers
abbrev pub ArePlain : OpenState → List Read → List Said → List Read → List Said → Type 0
ArePlain s [] said plain answers = (plain ≡ []) × (answers ≡ [])
ArePlain s (read ∷ reads) [] plain answers = ⊥
ArePlain s (read ∷ reads) (own ∷ more) plain answers = IsPlainBy (fault_of s read) s read own (λ next. ArePlain next reads more) plain answers
