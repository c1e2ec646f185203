-- What was told so far, and what is still to be told.
use Rattle.std.specs.Prelude.{◌≡◌, ℕ, ◌+◌, ◌≤◌, ◌<◌, List, [], ◌++◌, length, Bool, false, Option, Some, None, Result, Ok, Err}
use Rattle.std.specs.Io.KnownBytes.{Consumes, IsAtEnd, Keeps}
use Rattle.item_listing.specs.declared.limits.TheConstants.{MOST_BYTES}
use Rattle.item_listing.specs.Listing.{bytes_taken}
use Rattle.item_listing.specs.Listed.{listed, Waits}
use Rattle.told.specs.Told.{Told}
use Rattle.told.specs.Going.{Trace, Goes, Ends}
use Rattle.told.specs.Tells.{IsWriteFault}
use Rattle.told.specs.declared.break_off.BreakOff.{BreakOff}
use Rattle.told.specs.declared.ending.Ending.{Ending}
use Rattle.stream_answers.specs.inside.Turns.{told}
use Rattle.stream_answers.specs.inside.Turning.{IsStanding, stands}
use Rattle.stream_answers.specs.declared.wanted.Wanted.{Wanted}
use Rattle.xsv_run.specs.Output.{told_of}
use Rattle.xsv_run.specs.declared.next.Next.{Next}
use Rattle.xsv_run.specs.declared.next.Next.TheVariants as nexts
use Rattle.xsv_run.specs.declared.piece.Piece.{Piece}
use Rattle.xsv_run.specs.declared.piece.Piece.TheVariants as pieces
use Rattle.xsv_run.specs.declared.reader.Reader.{Reader}

-- what is still to be told when these bytes come, with none after them if closed
abbrev pub to_tell : Reader → List ℕ → Bool → Told
to_tell r more closed = told r.stream.wanted r.listing.past.lines (stands r.stream) (listed r.listing more closed)

-- some text was written, and whatever comes, what was to be told is that text and what is still to be told
abbrev pub GoesOn : Reader → Trace → Reader → Trace → Type 0
GoesOn r old s new = (more : List ℕ) (closed : Bool) → Goes (to_tell r more closed) old new (to_tell s more closed)

-- whatever comes, the run has ended as is told
abbrev pub HasEnded : Reader → Trace → Trace → Result Ending BreakOff → Type 0
HasEnded r old new ended = (more : List ℕ) (closed : Bool) → Ends (to_tell r more closed) ended old new

-- what an item was answered by
abbrev pub next_by : Result (Option Ending) BreakOff → Result Next BreakOff
next_by (Ok None) = Ok nexts.Goes
next_by (Ok (Some ending)) = Ok (nexts.Ends ending)
next_by (Err why) = Err why

-- one item was answered, or none is left; or the run has ended
abbrev pub TakesNext : Reader → Trace → Reader → Trace → Result Next BreakOff → Type 0
TakesNext r old s new (Ok nexts.Goes) = GoesOn r old s new
TakesNext r old s new (Ok nexts.Waits) = GoesOn r old s new
TakesNext r old s new (Ok (nexts.Ends ending)) = HasEnded r old new (Ok ending)
TakesNext r old s new (Err why) = HasEnded r old new (Err why)

-- all items were answered that are there; or the run has ended
abbrev pub Progresses : Reader → Trace → Reader → Trace → Result (Option Ending) BreakOff → Type 0
Progresses r old s new (Ok None) = GoesOn r old s new
Progresses r old s new (Ok (Some ending)) = HasEnded r old new (Ok ending)
Progresses r old s new (Err why) = HasEnded r old new (Err why)

-- no whole line is left, and the stream goes on
pub record Pauses (s : Reader) : Type 0 where
  pub is_open : IsStanding s.stream
  pub waits : Waits s.listing
  pub few : bytes_taken s.listing ≤ MOST_BYTES

abbrev pub PausesBy : Reader → Option Ending → Type 0
PausesBy s None = Pauses s
PausesBy s (Some ending) = Unit {0}

-- fewer bytes are held where an item was answered, and no more than a stream has where none is left
abbrev pub Holds : Reader → Reader → Next → Type 0
Holds r s nexts.Goes = IsStanding s.stream × (length s.listing.held < length r.listing.held)
Holds r s nexts.Waits = Pauses s
Holds r s (nexts.Ends ending) = Unit {0}

-- no whole line is left of these bytes, and the stream goes on
pub record PausesFed (r : Reader) (bytes : List ℕ) (s : Reader) : Type 0 where
  pub pauses : Pauses s
  pub counted : bytes_taken s.listing ≡ bytes_taken r.listing + length bytes
  pub going : s.listing.finished ≡ false

abbrev pub PausesFedBy : Reader → List ℕ → Reader → Option Ending → Type 0
PausesFedBy r bytes s None = PausesFed r bytes s
PausesFedBy r bytes s (Some ending) = Unit {0}

-- these bytes came and were answered, whatever comes behind them
abbrev pub Feeds : Reader → Trace → List ℕ → Reader → Trace → Type 0
Feeds r old bytes s new = (more : List ℕ) (closed : Bool) → Goes (to_tell r (bytes ++ more) closed) old new (to_tell s more closed)

-- these bytes came, and whatever comes behind them, the run has ended as is told
abbrev pub EndsFed : Reader → Trace → List ℕ → Trace → Result Ending BreakOff → Type 0
EndsFed r old bytes new ended = (more : List ℕ) (closed : Bool) → Ends (to_tell r (bytes ++ more) closed) ended old new

-- these bytes came and were answered, or the run has ended
abbrev pub FeedsOn : Reader → Trace → List ℕ → Reader → Trace → Result (Option Ending) BreakOff → Type 0
FeedsOn r old bytes s new (Ok None) = Feeds r old bytes s new
FeedsOn r old bytes s new (Ok (Some ending)) = EndsFed r old bytes new (Ok ending)
FeedsOn r old bytes s new (Err why) = EndsFed r old bytes new (Err why)

-- a piece was read and answered
pub record TakesPiece (r : Reader) (rest_old : Option (List ℕ)) (old : Trace) (s : Reader) (rest_new : Option (List ℕ)) (new : Trace) (count : ℕ) : Type 0 where
  pub bytes : List ℕ
  pub consumed : Consumes rest_old rest_new bytes
  pub long : count ≡ length bytes
  pub feeds : Feeds r old bytes s new
  pub pauses : PausesFed r bytes s
  pub some : 0 < length bytes

-- a piece was read, or none, and whatever comes behind it, the run has ended as is told
pub record EndsPiece (r : Reader) (rest_old : Option (List ℕ)) (old : Trace) (rest_new : Option (List ℕ)) (new : Trace) (ended : Result Ending BreakOff) : Type 0 where
  pub bytes : List ℕ
  pub consumed : Consumes rest_old rest_new bytes
  pub few : bytes_taken r.listing + length bytes ≤ MOST_BYTES + 1
  pub answers : EndsFed r old bytes new ended

abbrev pub Pieces : Reader → Option (List ℕ) → Trace → Reader → Option (List ℕ) → Trace → Piece → Type 0
Pieces r rest_old old s rest_new new (pieces.Goes count) = TakesPiece r rest_old old s rest_new new count
Pieces r rest_old old s rest_new new pieces.AtEnd = (s ≡ r) × (new ≡ old) × Consumes rest_old rest_new [] × IsAtEnd rest_new
Pieces r rest_old old s rest_new new pieces.Failed = (s ≡ r) × (new ≡ old) × Keeps rest_old rest_new
Pieces r rest_old old s rest_new new (pieces.Ends ended) = EndsPiece r rest_old old rest_new new ended

-- the stream goes on
abbrev pub StaysOpen : Reader → Piece → Type 0
StaysOpen s (pieces.Goes count) = IsStanding s.stream
StaysOpen s pieces.AtEnd = IsStanding s.stream
StaysOpen s pieces.Failed = Unit {0}
StaysOpen s (pieces.Ends ended) = Unit {0}

-- a write failed
abbrev pub FailsWrite : Piece → Type 0
FailsWrite (pieces.Goes count) = ⊥
FailsWrite pieces.AtEnd = ⊥
FailsWrite pieces.Failed = ⊥
FailsWrite (pieces.Ends ended) = IsWriteFault ended

-- a read failed
abbrev pub FailsRead : Piece → Type 0
FailsRead (pieces.Goes count) = ⊥
FailsRead pieces.AtEnd = ⊥
FailsRead pieces.Failed = Unit {0}
FailsRead (pieces.Ends ended) = ⊥

-- so many bytes were taken, and a text was written that they tell; the stream stands here
pub record StandsAt (w : Wanted) (rest_old rest_new : Option (List ℕ)) (old new : Trace) (r : Reader) : Type 0 where
  pub bytes : List ℕ
  pub consumed : Consumes rest_old rest_new bytes
  pub counted : bytes_taken r.listing ≡ length bytes
  pub goes : (more : List ℕ) (closed : Bool) → Goes (told_of w (bytes ++ more) closed) old new (to_tell r more closed)
