-- A swap to another schema set, and what was written.
use Rattle.std.proofs.Common.{◌≡◌, ◌≤◌, ◌<◌, ◌-◌, ◌^◌, ℕ, List, [], ◌∷◌, ◌++◌, append_assoc, length, nat_lt, nat_le, arith, Bool, true, false, Option, Result, Ok, Err, refl, sym, ap, ◌∙◌, subst}
use Rattle.std.specs.Prelude.{OnOk, codes}
use Rattle.std.proofs.lemmas.Bool.{and_parts, true≢false}
use Rattle.std.proofs.lemmas.Bool.Decides.{nat_tests}
use Rattle.plain_tree.specs.Table.{document_table}
use Rattle.plain_tree.proofs.Tables.{grows}
use Rattle.assessment.specs.Assessment.{Entry}
use Rattle.assessment.specs.Attribution.{SchemaSet}
use Rattle.kept_next.specs.Spaces.{HasSpacesNamed}
use Rattle.kept_next.proofs.Spaces.{spaces-grown}
use Rattle.xs_components.specs.declared.common.Rules.TheVariants.{V10}
use Rattle.schema_set.specs.declared.inputs.SchemaInput.{SchemaInput}
use Rattle.schema_compile.specs.Outcomes.{IsOutcome}
use Rattle.schema_compile.specs.declared.outcome.Outcome.{Outcome}
use Rattle.session_model.specs.Spending.{Counts}
use Rattle.session_model.specs.State.{State, with_names}
use Rattle.session_model.specs.declared.session.SessionError.{SessionError}
use Rattle.session_model.specs.declared.session.SessionError.TheVariants as errors
use Rattle.edit_session.specs.Reopened.{after_swap, swap_cost, IsReopened, Reopens}
use Rattle.told.specs.Going.{trace, Breaks, Answers}
use Rattle.told.specs.Outcomes.{SetOutcome, accepted, told_of, IsOutcomeOf}
use Rattle.told.specs.Tells.{Wrote}
use Rattle.told.specs.Told.{Told, says}
use Rattle.told.specs.declared.break_off.BreakOff.{BreakOff}
use Rattle.told.specs.declared.break_off.BreakOff.TheVariants.{Memory}
use Rattle.told.proofs.Saying.{said_answers, free_answers, looked_answers, looks_breaks, asked_answers}
use Rattle.edit_history.specs.History.{opened}
use Rattle.edit_history.specs.Log.{Log, cleared}
use Rattle.edit_history.specs.Meant.{meant_log}
use Rattle.edit_history.specs.Through.{history_through}
use Rattle.edit_history.specs.Through as histories
use Rattle.doc_tree.specs.declared.change.Change.{Change}
use Rattle.open_document.specs.Held.{state_of, IsLogged}
use Rattle.open_document.specs.Replies.{made_reply, no_section, is_section, swap_question, swap_said, swap_told, swapped_told}
use Rattle.open_document.specs.State.{OpenState}
use Rattle.open_document.specs.Steps.{with_swap}
use Rattle.open_document.specs.declared.held.OpenDocument.{OpenDocument}
use Rattle.open_document.proofs.Noting.{turns_before, next_within}

-- ---- what is kept of the document

-- a session that was not closed was swapped, or it is closed for want of memory
pub unswapped : (old : State) (set : SchemaSet) (e : SessionError) (new : State) → old.closed ≡ false → Reopens old set (Err e) new → new.closed ≡ false → ⊥
unswapped old set (errors.Refused e) new live h lives = h
unswapped old set errors.Memory new live h lives = true≢false (sym h.1 ∙ lives)
unswapped old set errors.Closed new live h lives = true≢false (sym h.0 ∙ live)

module _ (x : OpenDocument) (session : State) (log : Log Change) (set : SchemaSet) (is : IsReopened x.session set session) (none : log ≡ cleared x.log) where
  abbrev pub swapped : OpenDocument
  swapped = record x { session = session; log = log }

  pub swap_behind : state_of swapped ≡ with_swap (state_of x) set session.found
  swap_behind = λ i. record {
    session = is.new_is i;
    documents = x.documents.items;
    most = x.most;
    history = (ap (λ (l : Log Change). history_through session.document (meant_log session.set.names l)) none ∙ ap (λ (s : State). opened s.document.forest) is.new_is) i;
    log = ap (meant_log session.set.names) none i;
    turns = x.turns.turns;
  }

  pub swap_logged : HasSpacesNamed set → IsLogged x → IsLogged swapped
  swap_logged spaced logged = record {
    depth = ap (λ (l : Log Change). l.depth) none ∙ logged.depth;
    logged = subst (histories.IsLogged session.set.names session.document) (sym none) (record { leads = record { past = tt; future = tt }; answered = refl });
    later = turns_before x logged session.revision (ap (λ (s : State). s.revision) is.new_is);
    within = subst (λ (n : ℕ). n ≤ 2 ^ 64 - 1) (sym (ap (λ (s : State). s.revision) is.new_is)) (next_within x.session.revision);
    spaced = subst HasSpacesNamed (sym (ap (λ (s : State). s.set) is.new_is))
        (spaces-grown set (document_table set.names x.session.document.forest) (grows set.names x.session.document.forest) spaced);
  }

-- ---- what was written

module _ (s : OpenState) (set : SchemaSet) (next : OpenState → Told) where
  -- what is told where this is found by the set
  abbrev found_told : List Entry → Told
  found_told found = says (swap_said s.session (after_swap s.session set found)) (next (with_swap s set found))

  pub swapped_answers : (r : Result (Unit {0}) BreakOff) (taken taken' : Option (List ℕ)) (n m : ℕ) (new : OpenState) → IsReopened s.session set new.session
      → new ≡ with_swap s set new.session.found → Wrote r taken taken' (made_reply new.session) → Counts n m (swap_cost s.session)
      → Answers (swapped_told s next (accepted set)) r (trace taken n) (trace taken' m) (λ done. next new)
  swapped_answers r taken taken' n m new is new_is w counts =
      let found = new.session.found in
      subst (λ (x : OpenState). Answers (swapped_told s next (accepted set)) r (trace taken n) (trace taken' m) (λ done. next x)) (sym new_is)
      (looked_answers (with_names set s.session.document.forest) s.session.document found_told found r (trace taken n) (trace taken' m) (λ done. next (with_swap s set found)) is.found_is
      (said_answers (swap_said s.session (after_swap s.session set found)) (λ done. next (with_swap s set found)) (next (with_swap s set found))
      r taken taken' n m (λ done. refl) (subst (λ (x : State). Wrote r taken taken' (made_reply x)) is.new_is w) counts.later counts.few))

  -- memory was wanting for it
  pub broken_swap : (taken : Option (List ℕ)) (n m : ℕ) → Counts n m (swap_cost s.session) → Breaks (swapped_told s next (accepted set)) Memory (trace taken n) (trace taken m)
  broken_swap taken n m counts =
      looks_breaks (with_names set s.session.document.forest) s.session.document found_told (λ (found : List Entry). swap_cost s.session) taken taken n m (λ found k within. within) refl
      counts.later (λ found is. counts.few)

-- the parts of a refusal of a set are its text
pub refused_parts : (document item code : List ℕ) → codes "no 34 SetRefused " ++ (document ++ (codes " " ++ (item ++ (codes " " ++ (code ++ 10 ∷ []))))) ≡ codes "no 34 SetRefused " ++ document ++ codes " " ++ item ++ codes " " ++ code ++ 10 ∷ []
refused_parts document item code = simp append_assoc

-- an answer leaves it open
pub still_open : {T E : Type 0} (r : Result T E) (closed : Bool) → closed ≡ false → OnOk r (closed ≡ false)
still_open (Ok done) closed is = is
still_open (Err e) closed is = tt

-- ---- by the number of a section

-- a section has a place
pub section_place : (documents : List SchemaInput) (number : ℕ) → is_section documents number ≡ true → (0 < number) × (number ≤ length documents)
section_place documents number there =
    let both = and_parts (nat_lt 0 number) (nat_le number (length documents)) there in
    let low = both.0 in
    let high = both.1 in
    (grind (arith, nat_tests, low), grind (arith, nat_tests, high))

module _ (s : OpenState) (number : ℕ) (next : OpenState → Told) (r : Result (Unit {0}) BreakOff) (taken taken' : Option (List ℕ)) (n m : ℕ) (new : OpenState) where
  -- the set that starts at the section was asked for, and this is what it comes to
  pub known_answers : (o : Outcome) → IsOutcome s.documents (number - 1) o → Answers (swapped_told s next (told_of o)) r (trace taken n) (trace taken' m) (λ done. next new)
      → Answers (swap_told s number true next) r (trace taken n) (trace taken' m) (λ done. next new)
  known_answers o outcome h =
      asked_answers (swap_question s number) (swapped_told s next) (told_of o) r (trace taken n) (trace taken' m) (λ done. next new)
      (record { rules_are = refl; outcome = o; is_outcome = outcome; told_is = refl }) h

  -- by whether there is one
  pub told_answers : (there found : Bool) → found ≡ there → there ≡ true → Answers (swap_told s number true next) r (trace taken n) (trace taken' m) (λ done. next new)
      → Answers (swap_told s number found next) r (trace taken n) (trace taken' m) (λ done. next new)
  told_answers there found same is h = subst (λ (b : Bool). Answers (swap_told s number b next) r (trace taken n) (trace taken' m) (λ done. next new)) (sym (same ∙ is)) h

  -- there is no such section
  pub unknown_answers : (there : Bool) → there ≡ false → Wrote r taken taken' no_section
      → Answers (swap_told s number there next) r (trace taken n) (trace taken' n) (λ done. next s)
  unknown_answers there is w =
      subst (λ (b : Bool). Answers (swap_told s number b next) r (trace taken n) (trace taken' n) (λ done. next s)) (sym is)
      (free_answers no_section (λ done. next s) (next s) r taken taken' n (λ done. refl) w)
