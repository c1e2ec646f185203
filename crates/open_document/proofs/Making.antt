-- A change of a session that is not closed is made, or memory is wanting for it.
use Rattle.std.proofs.Common.{◌≡◌, ◌≤◌, ℕ, true, false, Err, sym, ◌∙◌}
use Rattle.std.proofs.lemmas.Bool.{true≢false}
use Rattle.tree_edits.specs.Inverses.{Change}
use Rattle.session_model.specs.State.{State}
use Rattle.session_model.specs.declared.session.SessionError.{SessionError}
use Rattle.session_model.specs.declared.session.SessionError.TheVariants as errors
use Rattle.edit_session.specs.Changed.{Changes, SpendsOn, TakesWithin}

module _ (T : Type 0) (old : State) (c : Change) (new : State) (live : old.closed ≡ false) where
  -- then the session is closed
  pub closed_by : (e : SessionError) → Changes {T = T} old c (Err e) new → new.closed ≡ true
  closed_by (errors.Refused e) h = absurd h
  closed_by errors.Memory h = h.1
  closed_by errors.Closed h = absurd (true≢false (sym h.0 ∙ live))

  -- and no more steps were counted than the change may take
  pub within_by : (e : SessionError) (n m : ℕ) → Changes {T = T} old c (Err e) new → SpendsOn {T = T} old c (Err e) new n m → (n ≤ m) × TakesWithin old c n m
  within_by (errors.Refused e) n m h spends = absurd h
  within_by errors.Memory n m h spends = spends
  within_by errors.Closed n m h spends = absurd (true≢false (sym h.0 ∙ live))
