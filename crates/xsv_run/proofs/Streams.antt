-- A stream, piece by piece.
use Rattle.std.proofs.Common.{◌≡◌, ℕ, ◌+◌, ◌-◌, ◌≤◌, ◌<◌, List, [], ◌++◌, length, Bool, true, false, Option, Some, None, Result, IfSome, refl, sym, ap, ◌∙◌, arith, subst, append_assoc, append-nil, length-append}
use Rattle.std.specs.Io.KnownBytes.{Consumes, IsAtEnd, Keeps}
use Rattle.std.proofs.KnownBytes.{Consumes-nil, Consumes-trans, Consumes-kept}
use Rattle.item_listing.specs.State.{Reading, unread}
use Rattle.item_listing.specs.declared.limits.TheConstants.{MOST_BYTES}
use Rattle.item_listing.specs.Listing.{bytes_taken}
use Rattle.item_listing.specs.Listed.{Listed, listed, Waits}
use Rattle.told.specs.Told.{Told, over, Leads}
use Rattle.told.specs.Going.{Trace, Goes, Ends}
use Rattle.told.specs.declared.break_off.BreakOff.{BreakOff}
use Rattle.told.specs.declared.ending.Ending.{Ending}
use Rattle.told.proofs.Going.{goes_same, goes_then, goes_ends}
use Rattle.stream_answers.specs.Output.{sections_told}
use Rattle.stream_answers.specs.inside.Turns.{Spot, told, unbegun}
use Rattle.stream_answers.specs.inside.Turning.{stands}
use Rattle.stream_answers.specs.declared.wanted.Wanted.{Wanted}
use Rattle.xsv_run.specs.Taking.{TakesAtMost}
use Rattle.xsv_run.specs.Output.{BreaksOff, IsAnswer, output_of, told_of}
use Rattle.xsv_run.specs.declared.reader.Reader.{Reader}
use Rattle.xsv_run.specs.inside.Progress.{EndsFed, Feeds, TakesPiece, EndsPiece, StandsAt, PausesFed, to_tell}

pub unread_waits : Waits unread
unread_waits = (λ e. refl, λ e. cc)

-- nothing was read yet: what is told place by place is what the sections tell
module _ (law : (a : Wanted) (its : Listed) → told a 0 unbegun its ≡ sections_told a its) (r : Reader) (rest : Option (List ℕ)) (o : Trace)
    (place : stands r.stream ≡ unbegun) (read : r.listing ≡ unread) where
  begun_told : (more : List ℕ) (closed : Bool) → told_of r.stream.wanted more closed ≡ to_tell r more closed
  begun_told more closed =
      sym (law r.stream.wanted (listed unread more closed))
      ∙ ap (λ (s : Spot). told r.stream.wanted 0 s (listed unread more closed)) (sym place)
      ∙ ap (λ (x : Reading). told r.stream.wanted x.past.lines (stands r.stream) (listed x more closed)) (sym read)

  pub stands_first : StandsAt r.stream.wanted rest rest o o r
  stands_first = record {
    bytes = [];
    consumed = Consumes-nil rest;
    counted = ap bytes_taken read;
    goes = λ more closed. goes_same (told_of r.stream.wanted more closed) (to_tell r more closed) o (begun_told more closed);
  }

module _ (a : Wanted) (rest_old rest_mid rest_new : Option (List ℕ)) (o m n : Trace) (r : Reader) where
  module _ (s : Reader) (count : ℕ) where
    goes_on : (front bytes : List ℕ) → ((more : List ℕ) (closed : Bool) → Goes (told_of a (front ++ more) closed) o m (to_tell r more closed)) → Feeds r m bytes s n
        → (more : List ℕ) (closed : Bool) → Goes (told_of a ((front ++ bytes) ++ more) closed) o n (to_tell s more closed)
    goes_on front bytes one two more closed =
        subst (λ (l : List ℕ). Goes (told_of a l closed) o n (to_tell s more closed)) (sym (append_assoc front bytes more))
        (goes_then (told_of a (front ++ (bytes ++ more)) closed) o m n (to_tell r (bytes ++ more) closed) (to_tell s more closed) (one (bytes ++ more) closed) (two more closed))

    pub stands_further : StandsAt a rest_old rest_mid o m r → TakesPiece r rest_mid m s rest_new n count → StandsAt a rest_old rest_new o n s
    stands_further one two = record {
      bytes = one.bytes ++ two.bytes;
      consumed = Consumes-trans rest_old rest_mid rest_new one.bytes two.bytes one.consumed two.consumed;
      counted = two.pauses.counted ∙ ap (λ k. k + length two.bytes) one.counted ∙ sym (length-append one.bytes two.bytes);
      goes = goes_on one.bytes two.bytes one.goes two.feeds;
    }

    -- there is room for one more byte
    pub room_further : (room : ℕ) → TakesPiece r rest_mid m s rest_new n count → bytes_taken r.listing + room ≡ MOST_BYTES + 1
        → (bytes_taken s.listing + (room - count) ≡ MOST_BYTES + 1) × (0 < room - count)
    room_further room two is = (omega (arith, two.pauses.counted, two.pauses.pauses.few, two.long, is), omega (arith, two.pauses.counted, two.pauses.pauses.few, two.long, is))

  -- what the whole source tells, where it begins with these bytes
  goes_whole : (bytes rest whole : List ℕ) → ((more : List ℕ) (closed : Bool) → Goes (told_of a (bytes ++ more) closed) o m (to_tell r more closed)) → whole ≡ bytes ++ rest
      → Goes (told_of a whole true) o m (to_tell r rest true)
  goes_whole bytes rest whole so is = subst (λ (l : List ℕ). Goes (told_of a l true) o m (to_tell r rest true)) (sym is) (so rest true)

  ends_whole : (e : Result Ending BreakOff) (bytes rest whole : List ℕ) → ((more : List ℕ) (closed : Bool) → Goes (told_of a (bytes ++ more) closed) o m (to_tell r more closed))
      → whole ≡ bytes ++ rest → Ends (to_tell r rest true) e m n → Ends (told_of a whole true) e o n
  ends_whole e bytes rest whole so is ended = goes_ends (told_of a whole true) e o m n (to_tell r rest true) (goes_whole bytes rest whole so is) ended

  ends_by_rest : (e : Result Ending BreakOff) (front bytes : List ℕ) → ((more : List ℕ) (closed : Bool) → Goes (told_of a (front ++ more) closed) o m (to_tell r more closed))
      → EndsFed r m bytes n e → (known last : Option (List ℕ)) → Consumes known last (front ++ bytes) → IfSome known (λ whole. Ends (told_of a whole true) e o n)
  ends_by_rest e front bytes so ended None last h = tt
  ends_by_rest e front bytes so ended (Some whole) None h = absurd h
  ends_by_rest e front bytes so ended (Some whole) (Some rest) h =
      ends_whole e front (bytes ++ rest) whole so (h ∙ append_assoc front bytes rest) (ended rest true)

  pub output_ends : (e : Result Ending BreakOff) → StandsAt a rest_old rest_mid o m r → EndsPiece r rest_mid m rest_new n e
      → IfSome rest_old (λ whole. Ends (told_of a whole true) e o n)
  output_ends e one two =
      ends_by_rest e one.bytes two.bytes one.goes two.answers rest_old rest_new (Consumes-trans rest_old rest_mid rest_new one.bytes two.bytes one.consumed two.consumed)

  pub few_ends : (e : Result Ending BreakOff) → StandsAt a rest_old rest_mid o m r → EndsPiece r rest_mid m rest_new n e → TakesAtMost (MOST_BYTES + 1) rest_old rest_new
  few_ends e one two = (
    one.bytes ++ two.bytes,
    Consumes-trans rest_old rest_mid rest_new one.bytes two.bytes one.consumed two.consumed,
    omega (arith, length-append one.bytes two.bytes, one.counted, two.few),
  )

  -- the source has ended
  at_end_by : (e : Result Ending BreakOff) (bytes : List ℕ) → ((more : List ℕ) (closed : Bool) → Goes (told_of a (bytes ++ more) closed) o m (to_tell r more closed))
      → Ends (to_tell r [] true) e m n → (known last : Option (List ℕ)) → Consumes known last (bytes ++ []) → IsAtEnd last
      → IfSome known (λ whole. Ends (told_of a whole true) e o n)
  at_end_by e bytes so answers None last h none = tt
  at_end_by e bytes so answers (Some whole) None h none = absurd h
  at_end_by e bytes so answers (Some whole) (Some rest) h none =
      ends_whole e bytes [] whole so (h ∙ ap (λ l. (bytes ++ []) ++ l) none ∙ append-nil (bytes ++ [])) answers

  output_at_end : (e : Result Ending BreakOff) → StandsAt a rest_old rest_mid o m r → Consumes rest_mid rest_new [] → IsAtEnd rest_new
      → Ends (to_tell r [] true) e m n → IfSome rest_old (λ whole. Ends (told_of a whole true) e o n)
  output_at_end e one taken none answers =
      at_end_by e one.bytes one.goes answers rest_old rest_new (Consumes-trans rest_old rest_mid rest_new one.bytes [] one.consumed taken) none

  few_at_end : StandsAt a rest_old rest_mid o m r → Consumes rest_mid rest_new [] → bytes_taken r.listing ≤ MOST_BYTES + 1 → TakesAtMost (MOST_BYTES + 1) rest_old rest_new
  few_at_end one taken few =
      (one.bytes ++ [], Consumes-trans rest_old rest_mid rest_new one.bytes [] one.consumed taken, omega (arith, length-append one.bytes [], one.counted, few))

  -- a read failed
  failed_by : (bytes : List ℕ) → ((more : List ℕ) (closed : Bool) → Goes (told_of a (bytes ++ more) closed) o m (to_tell r more closed))
      → (known last : Option (List ℕ)) → Consumes known last bytes → IfSome known (λ whole. (rest : Told) × Goes (told_of a whole true) o m rest)
  failed_by bytes so None last h = tt
  failed_by bytes so (Some whole) None h = absurd h
  failed_by bytes so (Some whole) (Some rest) h = (to_tell r rest true, goes_whole bytes rest whole so h)

  output_failed : StandsAt a rest_old rest_mid o m r → IfSome rest_old (λ whole. (rest : Told) × Goes (told_of a whole true) o m rest)
  output_failed one = failed_by one.bytes one.goes rest_old rest_mid one.consumed

  stops_failed : StandsAt a rest_old rest_mid o m r → Waits r.listing → r.listing.finished ≡ false → Keeps rest_mid rest_new
      → BreaksOff a rest_old rest_new o.taken m.taken
  stops_failed one waits going kept =
      let now : to_tell r [] false ≡ over None = ap (told r.stream.wanted r.listing.past.lines (stands r.stream)) (waits.0 going) in
      let so = one.goes [] false in record {
        bytes = one.bytes;
        consumed = Consumes-kept rest_old rest_mid rest_new one.bytes one.consumed kept;
        output = output_of so.said None;
        is_output = subst (λ (l : List ℕ). IsAnswer a l false (output_of so.said None)) (append-nil one.bytes)
            (record { said = so.said; ending = None; leads = subst (Leads (told_of a (one.bytes ++ []) false) so.said) now so.leads; output_is = refl });
        goes_on = refl;
        wrote = so.wrote;
      }

  pub stops_broken : StandsAt a rest_old rest_mid o m r → Waits r.listing → r.listing.finished ≡ false → n ≡ m → Keeps rest_mid rest_new
      → BreaksOff a rest_old rest_new o.taken n.taken
  stops_broken one waits going same kept =
      subst (λ (k : Trace). BreaksOff a rest_old rest_new o.taken k.taken) (sym same) (stops_failed one waits going kept)

  pub few_failed : StandsAt a rest_old rest_mid o m r → bytes_taken r.listing ≤ MOST_BYTES + 1 → Keeps rest_mid rest_new → TakesAtMost (MOST_BYTES + 1) rest_old rest_new
  few_failed one few kept = (one.bytes, Consumes-kept rest_old rest_mid rest_new one.bytes one.consumed kept, omega (arith, one.counted, few))

-- the piece that was read is none, since the source has ended
module _ (a : Wanted) (rest_old rest_mid rest_new : Option (List ℕ)) (o m k n : Trace) (r s : Reader) (one : StandsAt a rest_old rest_mid o m r)
    (facts : (s ≡ r) × (k ≡ m) × Consumes rest_mid rest_new [] × IsAtEnd rest_new) where
  pub output_last : (e : Result Ending BreakOff) → Ends (to_tell s [] true) e k n → IfSome rest_old (λ whole. Ends (told_of a whole true) e o n)
  output_last e answers =
      output_at_end a rest_old rest_mid rest_new o m n r e one facts.2 facts.3
      (subst (λ (v : Trace). Ends (to_tell r [] true) e v n) facts.1 (subst (λ (v : Reader). Ends (to_tell v [] true) e k n) facts.0 answers))

  pub few_last : (room : ℕ) → bytes_taken r.listing + room ≡ MOST_BYTES + 1 → TakesAtMost (MOST_BYTES + 1) rest_old rest_new
  few_last room is = few_at_end a rest_old rest_mid rest_new o m n r one facts.2 (omega (arith, is))

pub output_broken : (a : Wanted) (rest_old rest_mid : Option (List ℕ)) (o m k : Trace) (r : Reader) → StandsAt a rest_old rest_mid o m r → k ≡ m
    → IfSome rest_old (λ whole. (rest : Told) × Goes (told_of a whole true) o k rest)
output_broken a rest_old rest_mid o m k r one same =
    subst (λ (v : Trace). IfSome rest_old (λ whole. (rest : Told) × Goes (told_of a whole true) o v rest)) (sym same) (output_failed a rest_old rest_mid rest_mid o m m r one)

-- a piece that was read, and what came of it
module _ (r : Reader) (bytes read : List ℕ) (rest_old : Option (List ℕ)) (old : Trace) (rest_new : Option (List ℕ)) (new : Trace)
    (consumed : Consumes rest_old rest_new bytes) (same : read ≡ bytes) where
  pub ends_piece : (e : Result Ending BreakOff) → EndsFed r old read new e → bytes_taken r.listing + length bytes ≤ MOST_BYTES + 1
      → EndsPiece r rest_old old rest_new new e
  ends_piece e answers few = record {
    bytes = bytes;
    consumed = consumed;
    few = few;
    answers = subst (λ (l : List ℕ). EndsFed r old l new e) same answers;
  }

  pub takes_piece : (s : Reader) (count : ℕ) → Feeds r old read s new → PausesFed r read s → count ≡ length bytes → 0 < count
      → TakesPiece r rest_old old s rest_new new count
  takes_piece s count feeds pauses long some = record {
    bytes = bytes;
    consumed = consumed;
    long = long;
    feeds = subst (λ (l : List ℕ). Feeds r old l s new) same feeds;
    pauses = subst (λ (l : List ℕ). PausesFed r l s) same pauses;
    some = subst (λ k. 0 < k) long some;
  }
