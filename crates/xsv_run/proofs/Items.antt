-- An item that was answered.
use Rattle.std.proofs.Common.{◌≡◌, ℕ, ◌+◌, ◌<◌, List, ◌++◌, length, Bool, Option, Some, None, Result, Ok, Err, IfOk, refl, sym, ap, ◌∙◌, subst, arith}
use Rattle.item_listing.specs.State.{Reading}
use Rattle.item_listing.specs.Listing.{after, bytes_taken, Leaves, IsDrained}
use Rattle.item_listing.specs.Listed.{gives, refused, listed, ReadsOn}
use Rattle.item_listing.specs.declared.item.Item.{Item}
use Rattle.item_listing.specs.declared.past.ListingFault.{ListingFault}
use Rattle.told.specs.Told.{Told}
use Rattle.told.specs.Going.{Trace, trace, Answers, Ends}
use Rattle.told.specs.Tells.{Wrote}
use Rattle.told.specs.declared.break_off.BreakOff.{BreakOff}
use Rattle.told.specs.declared.break_off.BreakOff.TheVariants.{Memory}
use Rattle.told.specs.declared.ending.Ending.{Ending}
use Rattle.told.proofs.Going.{answers_as, ends_as}
use Rattle.told.proofs.Saying.{free_ends, memory_breaks}
use Rattle.stream_sections.specs.Sections.{bad_line}
use Rattle.stream_answers.specs.declared.wanted.Wanted.{Wanted}
use Rattle.stream_sections.specs.declared.refusal.Refusal.TheVariants as refusals
use Rattle.stream_answers.specs.Output.{stop_told}
use Rattle.stream_answers.specs.Refusals.{refusal_line, refusal_ending}
use Rattle.stream_answers.specs.inside.Turns.{Spot, turned, told}
use Rattle.stream_answers.specs.inside.Turning.{IsStanding, stands, behind}
use Rattle.stream_answers.specs.declared.stream.Stream.{Stream}
use Rattle.xsv_run.specs.declared.reader.Reader.{Reader}
use Rattle.xsv_run.specs.declared.next.Next.{Next}
use Rattle.xsv_run.specs.declared.next.Next.TheVariants as nexts
use Rattle.xsv_run.specs.inside.Progress.{GoesOn, HasEnded, EndsFed, Progresses, Pauses, TakesNext, Holds, next_by, to_tell}
use Rattle.xsv_run.proofs.Going.{waits_on}

-- what is told of a stream behind an item
abbrev pub TakesItem : Wanted → ℕ → Stream → Item → Stream → Trace → Trace → Result (Option Ending) BreakOff → Type 0
TakesItem a line x it y old new found = (next : Spot → Told) → Answers (turned a line (stands x) it next) found old new (behind next (stands y))

module _ (r s : Reader) (it : Item) (line : ℕ) (old new : Trace)
    (reads : (more : List ℕ) (closed : Bool) → listed r.listing more closed ≡ gives it (listed s.listing more closed))
    (counts : s.listing.past.lines ≡ r.listing.past.lines + 1) (at : line ≡ s.listing.past.lines) (same : s.stream.wanted ≡ r.stream.wanted) where
  abbrev then_told : List ℕ → Bool → Spot → Told
  then_told more closed spot = told s.stream.wanted s.listing.past.lines spot (listed s.listing more closed)

  told_is : (more : List ℕ) (closed : Bool) → to_tell r more closed ≡ turned r.stream.wanted line (stands r.stream) it (then_told more closed)
  told_is more closed =
      ap (told r.stream.wanted r.listing.past.lines (stands r.stream)) (reads more closed)
      ∙ ap (λ n. turned r.stream.wanted n (stands r.stream) it (λ spot. told r.stream.wanted n spot (listed s.listing more closed))) (sym counts)
      ∙ ap (λ n. turned r.stream.wanted n (stands r.stream) it (λ spot. told r.stream.wanted s.listing.past.lines spot (listed s.listing more closed))) (sym at)
      ∙ ap (λ (a : Wanted). turned r.stream.wanted line (stands r.stream) it (λ spot. told a s.listing.past.lines spot (listed s.listing more closed))) (sym same)

  item_answers : (found : Result (Option Ending) BreakOff) → TakesItem r.stream.wanted line r.stream it s.stream old new found → (more : List ℕ) (closed : Bool)
      → Answers (to_tell r more closed) found old new (behind (then_told more closed) (stands s.stream))
  item_answers found takes more closed =
      answers_as (to_tell r more closed) (turned r.stream.wanted line (stands r.stream) it (then_told more closed)) found old new
      (behind (then_told more closed) (stands s.stream)) (told_is more closed) (takes (then_told more closed))

  item_progresses : (found : Result (Option Ending) BreakOff) → TakesItem r.stream.wanted line r.stream it s.stream old new found → Progresses r old s new found
  item_progresses (Ok None) takes = λ more closed. item_answers (Ok None) takes more closed
  item_progresses (Ok (Some ending)) takes = λ more closed. item_answers (Ok (Some ending)) takes more closed
  item_progresses (Err why) takes = λ more closed. item_answers (Err why) takes more closed

takes_next : (r s : Reader) (old new : Trace) (found : Result (Option Ending) BreakOff) → Progresses r old s new found → TakesNext r old s new (next_by found)
takes_next r s old new (Ok None) h = h
takes_next r s old new (Ok (Some ending)) h = h
takes_next r s old new (Err why) h = h

-- the next item was read and answered
pub item_read : (r s : Reader) (read : Result (Option Item) ListingFault) (it : Item) (line : ℕ) (old new : Trace) (found : Result (Option Ending) BreakOff) (n : Result Next BreakOff)
    → read ≡ Ok (Some it) → ReadsOn r.listing read s.listing → Leaves r.listing read s.listing → line ≡ s.listing.past.lines → s.stream.wanted ≡ r.stream.wanted
    → TakesItem r.stream.wanted line r.stream it s.stream old new found → n ≡ next_by found → TakesNext r old s new n
item_read r s read it line old new found n is reads leaves at same takes by =
    let on = subst (λ x. ReadsOn r.listing x s.listing) is reads in
    let left : s.listing ≡ after r.listing (Some it) = subst (λ x. Leaves r.listing x s.listing) is leaves in
    subst (λ (x : Result Next BreakOff). TakesNext r old s new x) (sym by)
    (takes_next r s old new found (item_progresses r s it line old new on (ap (λ (x : Reading). x.past.lines) left) at same found takes))

-- fewer bytes are held behind an item
fewer_by : (a b c d k : ℕ) → a ≡ c + (k + 1) → a + b ≡ c + d → b < d
fewer_by a b c d k more same = omega (arith, more, same)

holds_by : (r s : Reader) (it : Item) (found : Result (Option Ending) BreakOff) → s.listing ≡ after r.listing (Some it)
    → bytes_taken s.listing ≡ bytes_taken r.listing → IfOk found (λ ended. ended ≡ None → IsStanding s.stream) → IfOk (next_by found) (Holds r s)
holds_by r s it (Ok None) left taken h =
    (h refl, fewer_by s.listing.past.bytes (length s.listing.held) r.listing.past.bytes (length r.listing.held) _ (ap (λ (x : Reading). x.past.bytes) left) taken)
holds_by r s it (Ok (Some ending)) left taken h = tt
holds_by r s it (Err why) left taken h = tt

pub item_holds : (r s : Reader) (read : Result (Option Item) ListingFault) (it : Item) (found : Result (Option Ending) BreakOff) (n : Result Next BreakOff)
    → read ≡ Ok (Some it) → Leaves r.listing read s.listing → bytes_taken s.listing ≡ bytes_taken r.listing
    → IfOk found (λ ended. ended ≡ None → IsStanding s.stream) → n ≡ next_by found → IfOk n (Holds r s)
item_holds r s read it found n is leaves taken h by =
    subst (λ (x : Result Next BreakOff). IfOk x (Holds r s)) (sym by)
    (holds_by r s it found (subst (λ x. Leaves r.listing x s.listing) is leaves) taken h)

-- no whole line is left
module _ (r : Reader) (l : Reading) (read : Result (Option Item) ListingFault) (is : read ≡ Ok None) (leaves : Leaves r.listing read l) where
  none_left : l ≡ r.listing
  none_left = subst (λ x. Leaves r.listing x l) is leaves

  pub none_read : (o : Trace) → GoesOn r o (record r { listing = l }) o
  none_read o = waits_on r l o none_left

  pub none_pauses : ReadsOn r.listing read l → IsDrained r.listing read → IsStanding r.stream → Pauses (record r { listing = l })
  none_pauses reads drained standing =
      subst (λ (x : Reading). Pauses (record r { listing = x })) (sym none_left)
      (record { is_open = standing; waits = subst (λ x. ReadsOn r.listing x l) is reads; few = (subst (λ x. IsDrained r.listing x) is drained).1 })

-- nothing was written for want of memory
pub memory_ends : (r : Reader) (old : Trace) → HasEnded r old old (Err Memory)
memory_ends r old = λ more closed. memory_breaks (to_tell r more closed) old

pub memory_fed : (r : Reader) (bytes : List ℕ) (old : Trace) → EndsFed r old bytes old (Err Memory)
memory_fed r bytes old = λ more closed. memory_breaks (to_tell r (bytes ++ more) closed) old

-- a line was refused
module _ (r : Reader) (fault : ListingFault) (old new : Option (List ℕ)) (k : ℕ)
    (reads : (more : List ℕ) (closed : Bool) → listed r.listing more closed ≡ refused fault) where
  abbrev refused_line : List ℕ
  refused_line = refusal_line fault.line (refusals.Line fault.reason)

  abbrev refused_ending : Ending
  refused_ending = refusal_ending (refusals.Line fault.reason)

  fault_ends : (e : Result Ending BreakOff) → Ends (stop_told (bad_line fault)) e (trace old k) (trace new k) → HasEnded r (trace old k) (trace new k) e
  fault_ends e ended = λ more closed.
      ends_as (to_tell r more closed) (stop_told (bad_line fault)) e (trace old k) (trace new k) (ap (told r.stream.wanted r.listing.past.lines (stands r.stream)) (reads more closed)) ended

  refused_by : (s : Reader) (n : Result Next BreakOff) → Wrote n old new refused_line → IfOk n (λ next. next ≡ nexts.Ends refused_ending)
      → TakesNext r (trace old k) s (trace new k) n
  refused_by s (Ok next) h is =
      subst (λ (x : Next). TakesNext r (trace old k) s (trace new k) (Ok x)) (sym is)
      (fault_ends (Ok refused_ending) (free_ends refused_line refused_ending (Ok refused_ending) old new k refl h))
  refused_by s (Err why) h is = fault_ends (Err why) (free_ends refused_line refused_ending (Err why) old new k tt h)

pub fault_read : (r s : Reader) (read : Result (Option Item) ListingFault) (fault : ListingFault) (old new : Option (List ℕ)) (k : ℕ) (n : Result Next BreakOff)
    → read ≡ Err fault → ReadsOn r.listing read s.listing
    → Wrote n old new (refusal_line fault.line (refusals.Line fault.reason)) → IfOk n (λ next. next ≡ nexts.Ends (refusal_ending (refusals.Line fault.reason)))
    → TakesNext r (trace old k) s (trace new k) n
fault_read r s read fault old new k n is reads h ended =
    refused_by r fault old new k (subst (λ x. ReadsOn r.listing x s.listing) is reads) s n h ended
