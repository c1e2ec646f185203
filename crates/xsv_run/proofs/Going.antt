-- Lines and pieces, one after another.
use Rattle.std.proofs.Common.{◌≡◌, ℕ, ◌+◌, List, [], ◌++◌, length, Bool, true, false, Option, Some, None, Result, Ok, Err, IfOk, sym, ap, ◌∙◌, subst, arith, length-append, if◌then◌else◌}
use Rattle.item_listing.specs.State.{Reading}
use Rattle.item_listing.specs.declared.past.Past.{Past}
use Rattle.item_listing.specs.Listing.{bytes_taken, fed}
use Rattle.item_listing.specs.Listed.{listed, Waits}
use Rattle.told.specs.Told.{Told}
use Rattle.told.specs.Going.{Trace, Goes, Ends}
use Rattle.told.specs.declared.break_off.BreakOff.{BreakOff}
use Rattle.told.specs.declared.ending.Ending.{Ending}
use Rattle.told.proofs.Going.{goes_nowhere, goes_then, goes_ends, ends_as}
use Rattle.stream_answers.specs.inside.Turns.{told, finished}
use Rattle.stream_answers.specs.inside.Turning.{stands}
use Rattle.stream_answers.specs.declared.stream.Stream.{Stream}
use Rattle.xsv_run.specs.declared.reader.Reader.{Reader}
use Rattle.xsv_run.specs.inside.Progress.{GoesOn, HasEnded, Progresses, Feeds, EndsFed, FeedsOn, PausesBy, PausesFedBy, to_tell}

pub stays_on : (r : Reader) (o : Trace) → GoesOn r o r o
stays_on r o = λ more closed. goes_nowhere (to_tell r more closed) o

pub waits_on : (r : Reader) (l : Reading) (o : Trace) → l ≡ r.listing → GoesOn r o (record r { listing = l }) o
waits_on r l o same = subst (λ (x : Reading). GoesOn r o (record r { listing = x }) o) (sym same) (stays_on r o)

pub goes_further : (r s t : Reader) (o m n : Trace) → GoesOn r o s m → GoesOn s m t n → GoesOn r o t n
goes_further r s t o m n one two = λ more closed.
    goes_then (to_tell r more closed) o m n (to_tell s more closed) (to_tell t more closed) (one more closed) (two more closed)

pub ends_further : (r s : Reader) (o m n : Trace) (e : Result Ending BreakOff) → GoesOn r o s m → HasEnded s m n e → HasEnded r o n e
ends_further r s o m n e one two = λ more closed. goes_ends (to_tell r more closed) e o m n (to_tell s more closed) (one more closed) (two more closed)

-- bytes that came are among those that were to come
module _ (r f : Reader) (bytes : List ℕ) (past : f.listing.past ≡ r.listing.past) (same : f.stream ≡ r.stream)
    (reads : (more : List ℕ) (closed : Bool) → listed f.listing more closed ≡ listed r.listing (bytes ++ more) closed) where
  same_told : (more : List ℕ) (closed : Bool) → to_tell r (bytes ++ more) closed ≡ to_tell f more closed
  same_told more closed =
      ap (told r.stream.wanted r.listing.past.lines (stands r.stream)) (sym (reads more closed))
      ∙ ap (λ (q : Past). told r.stream.wanted q.lines (stands r.stream) (listed f.listing more closed)) (sym past)
      ∙ ap (λ (x : Stream). told x.wanted f.listing.past.lines (stands x) (listed f.listing more closed)) (sym same)

  feeds : (s : Reader) (o n : Trace) → GoesOn f o s n → Feeds r o bytes s n
  feeds s o n on = λ more closed. subst (λ (t : Told). Goes t o n (to_tell s more closed)) (sym (same_told more closed)) (on more closed)

  ends_fed : (o n : Trace) (e : Result Ending BreakOff) → HasEnded f o n e → EndsFed r o bytes n e
  ends_fed o n e ended = λ more closed. ends_as (to_tell r (bytes ++ more) closed) (to_tell f more closed) e o n (same_told more closed) (ended more closed)

  pub fed_on : (s : Reader) (o n : Trace) (found : Result (Option Ending) BreakOff) → Progresses f o s n found → FeedsOn r o bytes s n found
  fed_on s o n (Ok None) h = feeds s o n h
  fed_on s o n (Ok (Some ending)) h = ends_fed o n (Ok ending) h
  fed_on s o n (Err why) h = ends_fed o n (Err why) h

pub pauses_fed : (r : Reader) (bytes : List ℕ) (s : Reader) (found : Result (Option Ending) BreakOff) → IfOk found (PausesBy s)
    → bytes_taken s.listing ≡ bytes_taken r.listing + length bytes → s.listing.finished ≡ false → IfOk found (PausesFedBy r bytes s)
pauses_fed r bytes s (Ok None) h counted going = record { pauses = h; counted = counted; going = going }
pauses_fed r bytes s (Ok (Some ending)) h counted going = tt
pauses_fed r bytes s (Err why) h counted going = tt

-- a piece that came: the lines that were read are as before
module _ (r f : Reading) (bytes : List ℕ) (going : r.finished ≡ false) (is : f ≡ fed r bytes) where
  with_piece : f ≡ record r { held = r.held ++ bytes }
  with_piece = is ∙ ap (λ t. if t then r else record r { held = r.held ++ bytes }) going

  pub fed_past : f.past ≡ r.past
  fed_past = ap (λ (x : Reading). x.past) with_piece

  pub fed_going : f.finished ≡ false
  fed_going = ap (λ (x : Reading). x.finished) with_piece ∙ going

  pub fed_counted : bytes_taken f ≡ bytes_taken r + length bytes
  fed_counted = ap bytes_taken with_piece ∙ omega (arith, length-append r.held bytes)

-- the source has ended: what was to be told is what the listing tells that is finished
module _ (r f : Reader) (past : f.listing.past ≡ r.listing.past) (same : f.stream ≡ r.stream)
    (finish : (more : List ℕ) (closed : Bool) → listed f.listing more closed ≡ listed r.listing [] true) where
  told_last : to_tell r [] true ≡ to_tell f [] true
  told_last =
      ap (told r.stream.wanted r.listing.past.lines (stands r.stream)) (sym (finish [] true))
      ∙ ap (λ (q : Past). told r.stream.wanted q.lines (stands r.stream) (listed f.listing [] true)) (sym past)
      ∙ ap (λ (x : Stream). told x.wanted f.listing.past.lines (stands x) (listed f.listing [] true)) (sym same)

  pub ends_last : (o n : Trace) (e : Result Ending BreakOff) → HasEnded f o n e → Ends (to_tell r [] true) e o n
  ends_last o n e ended = ends_as (to_tell r [] true) (to_tell f [] true) e o n told_last (ended [] true)

  pub finished_last : (s : Reader) (lines : ℕ) (o m n : Trace) (e : Result Ending BreakOff) → GoesOn f o s m → Waits s.listing → s.listing.finished ≡ true
      → lines ≡ s.listing.past.lines → Ends (finished lines (stands s.stream)) e m n → Ends (to_tell r [] true) e o n
  finished_last s lines o m n e on waits done_now count answers =
      let last : to_tell s [] true ≡ finished lines (stands s.stream) =
      ap (told s.stream.wanted s.listing.past.lines (stands s.stream)) (waits.1 done_now [] true) ∙ ap (λ k. finished k (stands s.stream)) (sym count) in
      ends_as (to_tell r [] true) (to_tell f [] true) e o n told_last
      (goes_ends (to_tell f [] true) e o m n (to_tell s [] true) (on [] true) (ends_as (to_tell s [] true) (finished lines (stands s.stream)) e m n last answers))
