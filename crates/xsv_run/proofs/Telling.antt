-- How a run has ended, by what is told.
use Rattle.std.proofs.Common.{◌≡◌, ◌≤◌, ℕ, List, Option, Some, None, IfSome, true, Result, Ok, Err, refl, sym, arith, subst}
use Rattle.xsv_io.specs.Causes.{Rose}
use Rattle.told.specs.Told.{Told, over}
use Rattle.told.specs.Going.{Trace, Goes, Ends}
use Rattle.told.specs.Tells.{IsWriteFault}
use Rattle.told.specs.declared.break_off.BreakOff.{BreakOff}
use Rattle.told.specs.declared.break_off.BreakOff.TheVariants as breaks
use Rattle.told.specs.declared.ending.Ending.{Ending}
use Rattle.told.specs.declared.ending.Ending.TheVariants as endings
use Rattle.stream_answers.specs.declared.wanted.Wanted.{Wanted}
use Rattle.xsv_run.specs.Statuses.{status_of, status_by}
use Rattle.xsv_run.specs.Output.{Answers, EndsAs, output_of, told_of}
use Rattle.xsv_run.specs.declared.status.Status.{Status}
use Rattle.xsv_run.specs.declared.status.Status.TheVariants as statuses

-- the status of a stream that has ended
module _ (what : Wanted) (whole : List ℕ) (a b : Trace) where
  ends_by : (ending : Ending) → Goes (told_of what whole true) a b (over (Some ending)) → EndsAs what whole (status_of ending) a b
  ends_by ending g = record {
    output = output_of g.said (Some ending);
    is_output = record { said = g.said; ending = Some ending; leads = g.leads; output_is = refl };
    status_is = refl;
    wrote = g.wrote;
    later = g.later;
    few = g.few;
  }

  as_ending : (ending : Ending) → Goes (told_of what whole true) a b (over (Some ending)) → Answers what whole (status_of ending) a b
  as_ending endings.Valid ended = ends_by endings.Valid ended
  as_ending endings.NotValid ended = ends_by endings.NotValid ended
  as_ending endings.SchemaRefused ended = ends_by endings.SchemaRefused ended
  as_ending endings.ListingRefused ended = ends_by endings.ListingRefused ended
  as_ending endings.Limit ended = ends_by endings.Limit ended
  as_ending endings.Unsupported ended = ends_by endings.Unsupported ended

  as_status : (e : Result Ending BreakOff) → Ends (told_of what whole true) e a b → Answers what whole (status_by e) a b
  as_status (Ok ending) ended = as_ending ending ended
  as_status (Err breaks.Memory) ended = ended
  as_status (Err breaks.WriteFault) ended = ended

pub if_some : {P Q : List ℕ → Type 0} (rest : Option (List ℕ)) → ((whole : List ℕ) → P whole → Q whole) → IfSome rest P → IfSome rest Q
if_some None f h = tt
if_some (Some whole) f h = f whole h

pub answers_by : (what : Wanted) (rest : Option (List ℕ)) (e : Result Ending BreakOff) (a b : Trace) (status : Status) → status ≡ status_by e
    → IfSome rest (λ whole. Ends (told_of what whole true) e a b) → IfSome rest (λ whole. Answers what whole status a b)
answers_by what rest e a b status is =
    if_some rest (λ whole ended. subst (λ (s : Status). Answers what whole s a b) (sym is) (as_status what whole a b e ended))

pub answers_broken : (what : Wanted) (rest : Option (List ℕ)) (a b : Trace)
    → IfSome rest (λ whole. (more : Told) × Goes (told_of what whole true) a b more) → IfSome rest (λ whole. Answers what whole statuses.ReadFault a b)
answers_broken what rest a b = if_some rest (λ whole broke. broke)

-- the status tells of words and of a failed read never, and of a failed write where one failed
pub not_words : (e : Result Ending BreakOff) (status : Status) → status ≡ status_by e → status ≡ statuses.Words → ⊥
not_words (Ok endings.Valid) status is words = cc
not_words (Ok endings.NotValid) status is words = cc
not_words (Ok endings.SchemaRefused) status is words = cc
not_words (Ok endings.ListingRefused) status is words = cc
not_words (Ok endings.Limit) status is words = cc
not_words (Ok endings.Unsupported) status is words = cc
not_words (Err breaks.Memory) status is words = cc
not_words (Err breaks.WriteFault) status is words = cc

pub not_read : (e : Result Ending BreakOff) (status : Status) → status ≡ status_by e → status ≡ statuses.ReadFault → ⊥
not_read (Ok endings.Valid) status is words = cc
not_read (Ok endings.NotValid) status is words = cc
not_read (Ok endings.SchemaRefused) status is words = cc
not_read (Ok endings.ListingRefused) status is words = cc
not_read (Ok endings.Limit) status is words = cc
not_read (Ok endings.Unsupported) status is words = cc
not_read (Err breaks.Memory) status is words = cc
not_read (Err breaks.WriteFault) status is words = cc

pub write_failed : (e : Result Ending BreakOff) (status : Status) → status ≡ status_by e → status ≡ statuses.WriteFault → IsWriteFault e
write_failed (Ok endings.Valid) status is fault = cc
write_failed (Ok endings.NotValid) status is fault = cc
write_failed (Ok endings.SchemaRefused) status is fault = cc
write_failed (Ok endings.ListingRefused) status is fault = cc
write_failed (Ok endings.Limit) status is fault = cc
write_failed (Ok endings.Unsupported) status is fault = cc
write_failed (Err breaks.Memory) status is fault = cc
write_failed (Err breaks.WriteFault) status is fault = tt

-- a count that rose later
pub rose_later : {before between now : ℕ} → before ≤ between → Rose between now → Rose before now
rose_later {before} {between} {now} later rose = omega (arith, later, rose)
