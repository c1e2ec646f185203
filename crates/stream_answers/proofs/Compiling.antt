-- Schema documents were compiled, and what follows their outcome was done.
use Rattle.std.proofs.Common.{◌≡◌, ℕ, List, Option, Result, IfOk, refl, sym, subst}
use Rattle.xs_codes.specs.declared.fault.Fault.{Fault}
use Rattle.assessment.specs.Attribution.{SchemaSet}
use Rattle.schema_set.specs.declared.inputs.SchemaInput.{SchemaInput}
use Rattle.told.specs.Outcomes.{SetOutcome, accepted, broken, IsOutcomeOf}
use Rattle.told.specs.Told.{Told, asks}
use Rattle.told.specs.Going.{trace, Answers}
use Rattle.told.specs.Tells.{Wrote}
use Rattle.told.specs.declared.break_off.BreakOff.{BreakOff}
use Rattle.told.proofs.Saying.{asked_answers}
use Rattle.open_document.specs.Answers.{IsCompiled, question, verdict_of, work_after}
use Rattle.open_document.specs.State.{Basis, WorkState, ready, with_documents}
use Rattle.open_document.specs.declared.verdict.SetVerdict.TheVariants as verdicts
use Rattle.stream_sections.specs.declared.asked.Asked.{Asked}
use Rattle.stream_sections.specs.declared.asked.Asked.TheVariants.{Check, Assess, Session}
use Rattle.stream_answers.specs.Faults.{fault_line, fault_ending}
use Rattle.stream_answers.specs.Output.{compiled_told, schema_ok}
use Rattle.stream_answers.specs.inside.Turns.{Spot, spot_behind}
use Rattle.stream_answers.specs.inside.Turning.{spot_of, place_behind, GoesTo, EndsSo, moved}
use Rattle.stream_answers.specs.declared.place.Place.{Place}
use Rattle.stream_answers.specs.declared.turn.Turn.{Turn}
use Rattle.stream_answers.proofs.Moved.{turn_goes, turn_ends}

spot_is : (a : Asked) (line : ℕ) (basis : Basis) → spot_of (place_behind a line) (ready basis) ≡ spot_behind a line basis
spot_is Check line basis = refl
spot_is Assess line basis = refl
spot_is Session line basis = refl

module _ (documents : List SchemaInput) (old work : WorkState) where
  accepted_by : (o : SetOutcome) → IsOutcomeOf (question documents) o → verdicts.Accepted ≡ verdict_of o → work ≡ work_after old documents o
      → (set : SchemaSet) × IsOutcomeOf (question documents) (accepted set) × (work ≡ ready (with_documents documents set))
  accepted_by (accepted set) is e w = (set, is, w)
  accepted_by (broken fault) is e w = absurd (cc)

  broken_by : (o : SetOutcome) (fault : Fault) → IsOutcomeOf (question documents) o → verdicts.Broken fault ≡ verdict_of o
      → IsOutcomeOf (question documents) (broken fault)
  broken_by (accepted set) fault is e = absurd (cc)
  broken_by (broken found) fault is e =
      let same : found ≡ fault = cc in
      subst (λ x. IsOutcomeOf (question documents) (broken x)) same is

  module _ (a : Asked) (line n : ℕ) (next : Spot → Told) (stood : Place) (taken wrote : Option (List ℕ)) (result : Result Turn BreakOff) where
    abbrev then_told : SetOutcome → Told
    then_told = compiled_told (λ set. next (spot_behind a line (with_documents documents set)))

    abbrev IsAnswered : Type 0
    IsAnswered = Answers (asks (question documents) then_told) result (trace taken n) (trace wrote n) (moved next stood work)

    known : (o : SetOutcome) → IsOutcomeOf (question documents) o → Answers (then_told o) result (trace taken n) (trace wrote n) (moved next stood work) → IsAnswered
    known o is h = asked_answers (question documents) then_told o result (trace taken n) (trace wrote n) (moved next stood work) is h

    pub takes_accepted : IsCompiled documents old verdicts.Accepted work → Wrote result taken wrote schema_ok → IfOk result (GoesTo (place_behind a line)) → IsAnswered
    takes_accepted h text goes =
        let s = accepted_by h.outcome h.is_outcome h.told_is h.work_is in
        let basis = with_documents documents s.0 in
        known (accepted s.0) s.1
        (turn_goes next stood work schema_ok result taken wrote n (place_behind a line) (spot_behind a line basis)
        (subst (λ w. spot_of (place_behind a line) w ≡ spot_behind a line basis) (sym s.2) (spot_is a line basis)) text goes)

    pub takes_broken : (fault : Fault) → IsCompiled documents old (verdicts.Broken fault) work → Wrote result taken wrote (fault_line fault)
        → IfOk result (EndsSo (fault_ending fault)) → IsAnswered
    takes_broken fault h text ended =
        known (broken fault) (broken_by h.outcome fault h.is_outcome h.told_is)
        (turn_ends next stood work (fault_line fault) (fault_ending fault) result taken wrote n text ended)
