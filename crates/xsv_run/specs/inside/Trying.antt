-- How a trial goes on from its session.
use Rattle.std.specs.Prelude.{◌≡◌, ℕ, List, length, Bool, true, false, Option}
use Rattle.std.specs.Io.KnownBytes.{Appends}
use Rattle.xsv_io.specs.Writing.{AppendsFront}
use Rattle.generated_stream.specs.Lines.{stream_lines}
use Rattle.generated_stream.specs.Summaries.{trial_text, accepted, refused, end_line}
use Rattle.xsv_run.specs.declared.status.Status.{Status}
use Rattle.xsv_run.specs.declared.status.Status.TheVariants.{Valid, WriteFault, Memory}

-- the three lines, by the output of the session
abbrev pub lines_of : ℕ → ℕ → List ℕ → List ℕ
lines_of start items output = trial_text (length (stream_lines start items)) (accepted output) (refused output) (end_line output)

-- they were written, or a front of them
abbrev pub WritesLines : ℕ → ℕ → List ℕ → Status → Option (List ℕ) → Option (List ℕ) → Type 0
WritesLines start items output Valid old new = Appends old new (lines_of start items output)
WritesLines start items output WriteFault old new = AppendsFront old new (lines_of start items output)
WritesLines start items output status old new = ⊥

abbrev pub EndsWanting : Status → Option (List ℕ) → Option (List ℕ) → Type 0
EndsWanting status old new = (status ≡ Memory) × (new ≡ old)

-- the lines were written where the session came to its end; where it was broken off, memory was wanting
abbrev pub EndsSession : Bool → ℕ → ℕ → List ℕ → Status → Option (List ℕ) → Option (List ℕ) → Type 0
EndsSession true start items output status old new = EndsWanting status old new
EndsSession false start items output status old new = WritesLines start items output status old new
