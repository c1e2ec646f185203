-- What the program writes, and its status. What schema documents come to and what is found of a document are relations, and so is the output.
use Rattle.std.specs.Prelude.{◌≡◌, ◌≤◌, ◌+◌, ℕ, List, [], ◌∷◌, ◌++◌, length, Bool, true, false, Option, Some, None, IfSome, Result, Ok, Err, codes}
use Rattle.std.specs.Option.{option_map}
use Rattle.std.specs.Io.KnownBytes.{Appends, Consumes}
use Rattle.xsv_io.specs.Writing.{AppendsFront}
use Rattle.item_listing.specs.State.{unread}
use Rattle.item_listing.specs.Listed.{listed}
use Rattle.told.specs.Told.{Said, Told, over, Leads}
use Rattle.told.specs.Going.{Trace, trace, Goes, Breaks}
use Rattle.told.specs.declared.break_off.BreakOff.TheVariants as breaks
use Rattle.told.specs.declared.ending.Ending.{Ending}
use Rattle.generated_stream.specs.Lines.{stream_lines, stream_text}
use Rattle.generated_stream.specs.Summaries.{trial_text, accepted, refused, end_line}
use Rattle.stream_answers.specs.Output.{sections_told}
use Rattle.stream_answers.specs.declared.wanted.Wanted.{Wanted}
use Rattle.stream_sections.specs.declared.asked.Asked.{Asked}
use Rattle.stream_sections.specs.declared.asked.Asked.TheVariants.{Check, Assess, Session}
use Rattle.command_words.specs.declared.request.Request.{Request}
use Rattle.command_words.specs.declared.request.Request.TheVariants.{Read, Generate, Trial}
use Rattle.command_words.specs.declared.request.Task.{Task}
use Rattle.command_words.specs.declared.request.Task.TheVariants as tasks
use Rattle.command_words.specs.declared.words.WordsFault.{WordsFault}
use Rattle.command_words.specs.declared.words.WordsFault.TheVariants as faults
use Rattle.xsv_run.specs.Statuses.{status_of}
use Rattle.xsv_run.specs.declared.status.Status.{Status}
use Rattle.xsv_run.specs.declared.status.Status.TheVariants.{Valid, Words, ReadFault, WriteFault, Memory}

-- ---- the output

-- a text, how many steps it costs at most, and a status where the run has ended
pub record Output : Type 0 where
  pub text : List ℕ
  pub cost : ℕ
  pub status : Option Status

abbrev pub usage : List ℕ
usage = codes "usage: xsv check|assess|session [--max-errors N] | xsv generate|trial NUMBER COUNT" ++ 10 ∷ []

abbrev pub asked_of : Task → Asked
asked_of tasks.Check = Check
asked_of tasks.Assess = Assess
asked_of tasks.Session = Session

abbrev pub wanted_of : Task → ℕ → Wanted
wanted_of task most = record { asked = asked_of task; most = most }

-- what is told of a stream by these bytes, with none after them if closed
abbrev pub told_of : Wanted → List ℕ → Bool → Told
told_of what bytes closed = sections_told what (listed unread bytes closed)

abbrev pub output_of : Said → Option Ending → Output
output_of said ending = record { text = said.text; cost = said.cost; status = option_map status_of ending }

-- some way through what is told ends in this output
pub record ComesTo (t : Told) (out : Output) : Type 0 where
  pub said : Said
  pub ending : Option Ending
  pub leads : Leads t said (over ending)
  pub output_is : out ≡ output_of said ending

-- what is written for these bytes, with none after them if closed, where this is wanted of them
abbrev pub IsAnswer : Wanted → List ℕ → Bool → Output → Type 0
IsAnswer what bytes closed out = ComesTo (told_of what bytes closed) out

-- words that ask for nothing
abbrev pub refused_words : Output
refused_words = record { text = usage; cost = 0; status = Some Words }

-- the stream of a number and a count of items
abbrev pub generated : ℕ → ℕ → Output
generated start items = record { text = stream_text start items; cost = 0; status = Some Valid }

-- a session with what is written by default
abbrev pub usual_session : Wanted
usual_session = wanted_of tasks.Session 100

-- The three lines of a trial: how many lines the stream has, and, of the output of a session on it, how many edits were accepted and refused, and the
-- line of its end.
abbrev pub trial_of : ℕ → ℕ → Output → Output
trial_of start items session = record {
  text = trial_text (length (stream_lines start items)) (accepted session.text) (refused session.text) (end_line session.text);
  cost = session.cost;
  status = Some Valid;
}

abbrev pub IsTrial : ℕ → ℕ → Output → Type 0
IsTrial start items out = (session : Output) × IsAnswer usual_session (stream_text start items) true session × (out ≡ trial_of start items session)

-- What is written for what is asked and these bytes, with none after them if closed, the steps that it costs at most, and the status. The bytes do not
-- matter where a stream is generated.
abbrev pub IsOutput : Option Request → List ℕ → Bool → Output → Type 0
IsOutput None bytes closed out = out ≡ refused_words
IsOutput (Some (Read task most)) bytes closed out = IsAnswer (wanted_of task most) bytes closed out
IsOutput (Some (Generate start items)) bytes closed out = out ≡ generated start items
IsOutput (Some (Trial start items)) bytes closed out = IsTrial start items out

-- ---- how a stream is answered

-- the status is that of the answer, its text was written, and no more steps were counted than it costs
pub record EndsAs (what : Wanted) (bytes : List ℕ) (status : Status) (old new : Trace) : Type 0 where
  pub output : Output
  pub is_output : IsAnswer what bytes true output
  pub status_is : output.status ≡ Some status
  pub wrote : Appends old.taken new.taken output.text
  pub later : old.steps ≤ new.steps
  pub few : new.steps ≤ old.steps + output.cost

-- A stream of these bytes is answered to its end. The status is the answer's, and its text was written; or a read failed, and what was written is what is
-- told so far; or memory was wanting or a write failed, and a front was written. No more steps were counted than is told.
abbrev pub Answers : Wanted → List ℕ → Status → Trace → Trace → Type 0
Answers what bytes Words old new = ⊥
Answers what bytes ReadFault old new = (rest : Told) × Goes (told_of what bytes true) old new rest
Answers what bytes WriteFault old new = Breaks (told_of what bytes true) breaks.WriteFault old new
Answers what bytes Memory old new = Breaks (told_of what bytes true) breaks.Memory old new
Answers what bytes status old new = EndsAs what bytes status old new

-- A read failed behind some bytes: what they tell was written, by the lines that end in them, and where they tell already that the begun
-- line is refused; and it does not end the run.
pub record BreaksOff (what : Wanted) (rest_old rest_new taken_old taken_new : Option (List ℕ)) : Type 0 where
  pub bytes : List ℕ
  pub consumed : Consumes rest_old rest_new bytes
  pub output : Output
  pub is_output : IsAnswer what bytes false output
  pub goes_on : output.status ≡ None
  pub wrote : Appends taken_old taken_new output.text

-- a stream is answered, whose bytes the source may tell
pub record Reads (what : Wanted) (status : Status) (old new : Trace) (rest_old rest_new : Option (List ℕ)) : Type 0 where
  pub answers : IfSome rest_old (λ bytes. Answers what bytes status old new)
  pub broken : status ≡ ReadFault → BreaksOff what rest_old rest_new old.taken new.taken
  pub answered : status ≡ Words → ⊥

-- ---- how a run ends

-- the usage line was written, or a front of it where a write failed, and no step was counted
abbrev pub RefusesWords : Status → Trace → Trace → Type 0
RefusesWords Words old new = Appends old.taken new.taken usage × (new.steps ≡ old.steps)
RefusesWords WriteFault old new = AppendsFront old.taken new.taken usage × (new.steps ≡ old.steps)
RefusesWords status old new = ⊥

-- the stream of a number and a count of items was written, or a front of it where a write failed; or memory for the words was wanting; no step was counted
abbrev pub Generates : ℕ → ℕ → Status → Trace → Trace → Type 0
Generates start items Valid old new = Appends old.taken new.taken (stream_text start items) × (new.steps ≡ old.steps)
Generates start items WriteFault old new = AppendsFront old.taken new.taken (stream_text start items) × (new.steps ≡ old.steps)
Generates start items Memory old new = new ≡ old
Generates start items status old new = ⊥

-- the lines of a trial: no more steps were counted than its session costs
pub record WritesTrial (start items : ℕ) (wrote : List ℕ → Type 0) (steps_old steps_new : ℕ) : Type 0 where
  pub output : Output
  pub is_output : IsTrial start items output
  pub written : wrote output.text
  pub later : steps_old ≤ steps_new
  pub few : steps_new ≤ steps_old + output.cost

-- Memory was wanting for a trial, some way through its session: no more steps were counted than the session costs so far, and what is said next.
abbrev pub IsWanting : ℕ → ℕ → ℕ → ℕ → Type 0
IsWanting start items steps_old steps_new =
    (replies : List ℕ) × Breaks (told_of usual_session (stream_text start items) true) breaks.Memory (trace (Some []) steps_old) (trace (Some replies) steps_new)

-- the three lines of a trial were written, or a front of them where a write failed; or memory was wanting, and nothing was written
abbrev pub Tries : ℕ → ℕ → Status → Trace → Trace → Type 0
Tries start items Valid old new = WritesTrial start items (Appends old.taken new.taken) old.steps new.steps
Tries start items WriteFault old new = WritesTrial start items (AppendsFront old.taken new.taken) old.steps new.steps
Tries start items Memory old new = (new.taken ≡ old.taken) × IsWanting start items old.steps new.steps
Tries start items status old new = ⊥

-- What was asked for is done: a stream is answered; or one is generated, or a trial is made of it, or words that ask for nothing are refused by the usage
-- line, and then nothing is read.
abbrev pub Runs : Option Request → Status → Trace → Trace → Option (List ℕ) → Option (List ℕ) → Type 0
Runs None status old new rest_old rest_new = RefusesWords status old new × (rest_new ≡ rest_old)
Runs (Some (Read task most)) status old new rest_old rest_new = Reads (wanted_of task most) status old new rest_old rest_new
Runs (Some (Generate start items)) status old new rest_old rest_new = Generates start items status old new × (rest_new ≡ rest_old)
Runs (Some (Trial start items)) status old new rest_old rest_new = Tries start items status old new × (rest_new ≡ rest_old)

-- words that were not read: without memory for them the run ends at once, and a word that is not UTF-8 is none of the program's
abbrev pub RunsUnread : {T : Type 0} → Result T WordsFault → Status → Trace → Trace → Option (List ℕ) → Option (List ℕ) → Type 0
RunsUnread (Ok read) status old new rest_old rest_new = Unit {0}
RunsUnread (Err faults.Memory) status old new rest_old rest_new = (status ≡ Memory) × (new ≡ old) × (rest_new ≡ rest_old)
RunsUnread (Err faults.NotText) status old new rest_old rest_new = Runs None status old new rest_old rest_new
