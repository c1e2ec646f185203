-- What is told behind a turn of the code.
use Rattle.std.proofs.Common.{◌≡◌, ℕ, List, Option, Some, Result, Ok, Err, IfOk, refl, ap, ◌∙◌}
use Rattle.told.specs.Told.{free, Told, over, says}
use Rattle.told.specs.Going.{trace, Answers}
use Rattle.told.specs.Tells.{Wrote}
use Rattle.told.specs.declared.break_off.BreakOff.{BreakOff}
use Rattle.told.specs.declared.ending.Ending.{Ending}
use Rattle.told.proofs.Saying.{free_where}
use Rattle.open_document.specs.State.{Basis, OpenState, WorkState, empty, ready, working, IsReady, IsOpen as IsDocumentOpen}
use Rattle.stream_answers.specs.Output.{ends}
use Rattle.stream_answers.specs.inside.Turns.{Spot}
use Rattle.stream_answers.specs.inside.Turning.{spot_of, behind, place_by, moved, GoesTo, EndsSo}
use Rattle.stream_answers.specs.declared.place.Place.{Place}
use Rattle.stream_answers.specs.declared.turn.Turn.{Turn}
use Rattle.stream_answers.specs.declared.turn.Turn.TheVariants as turns

-- ---- what a stream works on

pub ready_basis : (w : WorkState) → IsReady w → (basis : Basis) × (w ≡ ready basis)
ready_basis empty h = absurd h
ready_basis (ready basis) h = (basis, refl)
ready_basis (working s) h = absurd h

pub open_document : (w : WorkState) → IsDocumentOpen w → (s : OpenState) × (w ≡ working s)
open_document empty h = absurd h
open_document (ready basis) h = absurd h
open_document (working s) h = (s, refl)

-- ---- turns

module _ (next : Spot → Told) (stood : Place) (work : WorkState) where
  -- the stream goes to this place
  goes_place : (place : Place) (spot : Spot) (turn : Turn) → spot_of place work ≡ spot → GoesTo place turn → moved next stood work turn ≡ next spot
  goes_place place spot turns.Stays e h = absurd h
  goes_place place spot (turns.Goes other) e h = ap next (ap (λ (p : Place). spot_of p work) h ∙ e)
  goes_place place spot (turns.Ends given) e h = absurd h

  pub if_goes : (r : Result Turn BreakOff) (place : Place) (spot : Spot) → spot_of place work ≡ spot → IfOk r (GoesTo place)
      → IfOk r (λ turn. moved next stood work turn ≡ next spot)
  if_goes (Ok turn) place spot e h = goes_place place spot turn e h
  if_goes (Err why) place spot e h = tt

  pub turn_goes : (text : List ℕ) (r : Result Turn BreakOff) (old new : Option (List ℕ)) (n : ℕ) (place : Place) (spot : Spot) → spot_of place work ≡ spot
      → Wrote r old new text → IfOk r (GoesTo place) → Answers (says (free text) (next spot)) r (trace old n) (trace new n) (moved next stood work)
  turn_goes text r old new n place spot e w h = free_where text (moved next stood work) (next spot) r old new n (if_goes r place spot e h) w

  -- the stream has ended so
  if_ends : (r : Result Turn BreakOff) (ending : Ending) → IfOk r (EndsSo ending) → IfOk r (λ turn. moved next stood work turn ≡ over (Some ending))
  if_ends (Ok turn) ending h = ap (behind next (spot_of (place_by stood turn) work)) h
  if_ends (Err why) ending h = tt

  pub turn_ends : (text : List ℕ) (ending : Ending) (r : Result Turn BreakOff) (old new : Option (List ℕ)) (n : ℕ) → Wrote r old new text → IfOk r (EndsSo ending)
      → Answers (ends text ending) r (trace old n) (trace new n) (moved next stood work)
  turn_ends text ending r old new n w h = free_where text (moved next stood work) (over (Some ending)) r old new n (if_ends r ending h) w
