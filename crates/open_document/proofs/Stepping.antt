-- What is told of a step along the history, and what was written.
use Rattle.std.proofs.Common.{◌≡◌, ℕ, List, Bool, true, false, Option, Some, None, Result, Ok, Err, refl, sym, ap, subst}
use Rattle.assessment.specs.Assessment.{Entry}
use Rattle.session_model.specs.Spending.{Counts}
use Rattle.session_model.specs.State.{State}
use Rattle.edit_session.specs.Changed.{after_change}
use Rattle.edit_session.specs.Costs.{change_cost}
use Rattle.told.specs.Going.{trace, Breaks, Answers}
use Rattle.told.specs.Tells.{Wrote}
use Rattle.told.specs.Told.{Told, says}
use Rattle.told.specs.declared.break_off.BreakOff.{BreakOff}
use Rattle.told.specs.declared.break_off.BreakOff.TheVariants.{Memory}
use Rattle.told.proofs.Saying.{said_answers, free_answers, looked_answers, looks_breaks}
use Rattle.open_document.specs.Replies.{made_reply, step_said, step_told}
use Rattle.open_document.specs.State.{OpenState}
use Rattle.open_document.specs.Stepping.{IsStepped, BreaksStep, Makes}
use Rattle.open_document.specs.Steps.{Step, document_behind, with_step}

module _ (s : OpenState) (refused : List ℕ) (next : OpenState → Told) where
  abbrev pub told_by : Option Step → Told
  told_by step = step_told s step refused next

  -- what is told where this is found behind a step
  abbrev found_told : Step → List Entry → Told
  found_told step found = says (step_said s.session step.change (after_change s.session (document_behind s step) found)) (next (with_step s step found))

  module _ (r : Result (Unit {0}) BreakOff) (taken taken' : Option (List ℕ)) (n m : ℕ) where
    at_step : (step : Step) (new : OpenState) → IsStepped s step new n m → Wrote r taken taken' (made_reply new.session)
        → Answers (told_by (Some step)) r (trace taken n) (trace taken' m) (λ done. next new)
    at_step step new h w =
        let found = new.session.found in
        let last = after_change s.session (document_behind s step) found in
        let same : new.session ≡ last = ap (λ (x : OpenState). x.session) h.new_is in
        let counts : Counts n m (change_cost s.session step.change last) = subst (λ (x : State). Counts n m (change_cost s.session step.change x)) same h.counts in
        subst (λ (x : OpenState). Answers (told_by (Some step)) r (trace taken n) (trace taken' m) (λ done. next x)) (sym h.new_is)
        (looked_answers s.session.set (document_behind s step) (found_told step) found r (trace taken n) (trace taken' m) (λ done. next (with_step s step found)) h.found_is
        (said_answers (step_said s.session step.change last) (λ done. next (with_step s step found)) (next (with_step s step found)) r taken taken' n m (λ done. refl)
        (subst (λ (x : State). Wrote r taken taken' (made_reply x)) same w) counts.later counts.few))

    -- there was none
    none_here : (new : OpenState) → (new ≡ s) × (m ≡ n) → Wrote r taken taken' refused → Answers (told_by None) r (trace taken n) (trace taken' m) (λ done. next new)
    none_here new h w =
        subst (λ (x : OpenState). Answers (told_by None) r (trace taken n) (trace taken' m) (λ done. next x)) (sym h.0)
        (subst (λ (k : ℕ). Answers (told_by None) r (trace taken n) (trace taken' k) (λ done. next s)) (sym h.1)
        (free_answers refused (λ done. next s) (next s) r taken taken' n (λ done. refl) w))

    module _ {E : Type 0} where
      -- a step was made, and its reply was written, or broken off
      pub stepped_answers : (step : Option Step) (made : Result Bool E) (new : OpenState) → made ≡ Ok true → Makes s step made new n m → Wrote r taken taken' (made_reply new.session)
          → Answers (told_by step) r (trace taken n) (trace taken' m) (λ done. next new)
      stepped_answers None made new is h w = absurd (subst (λ (x : Result Bool E). Makes s None x new n m) is h)
      stepped_answers (Some step) made new is h w = at_step step new (subst (λ (x : Result Bool E). Makes s (Some step) x new n m) is h) w

      -- there was none
      pub unstepped_answers : (step : Option Step) (made : Result Bool E) (new : OpenState) → made ≡ Ok false → Makes s step made new n m → Wrote r taken taken' refused
          → Answers (told_by step) r (trace taken n) (trace taken' m) (λ done. next new)
      unstepped_answers None made new is h w = none_here new (subst (λ (x : Result Bool E). Makes s None x new n m) is h) w
      unstepped_answers (Some step) made new is h w = absurd (subst (λ (x : Result Bool E). Makes s (Some step) x new n m) is h)

  module _ {E : Type 0} where
    -- memory was wanting for it
    pub broken_step : (step : Option Step) (made : Result Bool E) (why : E) (new : OpenState) (taken : Option (List ℕ)) (n m : ℕ) → made ≡ Err why → Makes s step made new n m
        → Breaks (told_by step) Memory (trace taken n) (trace taken m)
    broken_step None made why new taken n m is h = absurd (subst (λ (x : Result Bool E). Makes s None x new n m) is h)
    broken_step (Some step) made why new taken n m is h =
        let b : BreaksStep s step n m = subst (λ (x : Result Bool E). Makes s (Some step) x new n m) is h in
        looks_breaks s.session.set (document_behind s step) (found_told step)
        (λ (es : List Entry). change_cost s.session step.change (after_change s.session (document_behind s step) es)) taken taken n m (λ es k within. within) refl b.later
        (λ es found. (b.within es found).few)
