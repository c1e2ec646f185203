-- What a step along the history has done.
use Rattle.std.specs.Prelude.{◌≡◌, ◌≤◌, ℕ, List, Bool, true, false, Option, Some, None, Result, Ok, Err}
use Rattle.assessment.specs.Assessment.{Entry}
use Rattle.what_is_found.specs.IsFound.{IsFound}
use Rattle.session_model.specs.Spending.{Counts}
use Rattle.edit_session.specs.Changed.{after_change}
use Rattle.edit_session.specs.Costs.{change_cost}
use Rattle.open_document.specs.State.{OpenState}
use Rattle.open_document.specs.Steps.{Step, document_behind, with_step}

-- the step was made: what is found of the document behind it stands with it
pub record IsStepped (old : OpenState) (step : Step) (new : OpenState) (first last : ℕ) : Type 0 where
  pub found_is : IsFound old.session.set (document_behind old step) new.session.found
  pub new_is : new ≡ with_step old step new.session.found
  pub counts : Counts first last (change_cost old.session step.change new.session)

-- memory was wanting for it: no more steps were counted than it might have taken, whatever is found of the document behind it
pub record BreaksStep (s : OpenState) (step : Step) (first last : ℕ) : Type 0 where
  pub later : first ≤ last
  pub within : (found : List Entry) → IsFound s.session.set (document_behind s step) found
      → Counts first last (change_cost s.session step.change (after_change s.session (document_behind s step) found))

-- there was no step, and nothing has changed; or it was made; or memory was wanting for it
abbrev pub Makes : {E : Type 0} → OpenState → Option Step → Result Bool E → OpenState → ℕ → ℕ → Type 0
Makes old None (Ok false) new first last = (new ≡ old) × (last ≡ first)
Makes old None (Ok true) new first last = ⊥
Makes old None (Err e) new first last = ⊥
Makes old (Some step) (Ok true) new first last = IsStepped old step new first last
Makes old (Some step) (Ok false) new first last = ⊥
Makes old (Some step) (Err e) new first last = BreaksStep old step first last
