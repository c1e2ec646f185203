-- What is told of an edit, and what was written.
use Rattle.std.proofs.Common.{◌≡◌, ◌≤◌, ℕ, List, Option, Result, Ok, Err, refl, sym, subst}
use Rattle.tree_rows.specs.Forest.{Document}
use Rattle.tree_edits.specs.Refusals as refusals
use Rattle.tree_edits.specs.Tests.{edited}
use Rattle.tree_edits.specs.declared.edit.Edit.{Edit}
use Rattle.tree_edits.specs.declared.edit.EditError.{EditError}
use Rattle.assessment.specs.Assessment.{Entry}
use Rattle.what_is_found.specs.IsFound.{IsFound}
use Rattle.session_model.specs.Applying.{IsEdited, Applies}
use Rattle.session_model.specs.Spending.{Counts, BreaksWithin, Spends}
use Rattle.session_model.specs.State.{State, with_names, after_edit}
use Rattle.session_model.specs.declared.session.SessionError.{SessionError}
use Rattle.session_model.specs.declared.session.SessionError.TheVariants as errors
use Rattle.edit_session.specs.Costs.{edit_cost}
use Rattle.told.specs.Going.{trace, Breaks, Answers}
use Rattle.told.specs.Tells.{Wrote}
use Rattle.told.specs.Told.{Told, says}
use Rattle.told.specs.declared.break_off.BreakOff.{BreakOff}
use Rattle.told.specs.declared.break_off.BreakOff.TheVariants.{Memory}
use Rattle.told.proofs.Saying.{said_answers, free_answers, looked_answers, looks_breaks, memory_breaks}
use Rattle.open_document.specs.Replies.{refusal, made_reply, made_said, edit_told}
use Rattle.open_document.specs.State.{OpenState}
use Rattle.open_document.specs.Steps.{with_edit}

-- the text of a refusal
pub refusal-is : (n k : ℕ) (name word : List ℕ) → n ≡ k → name ≡ word → refusal n name ≡ refusal k word
refusal-is n k name word e h = λ i. refusal (e i) (h i)

-- the cases of what a session answers, where it is known which it is
module _ (old : State) (edit : Edit) (new : State) (n m : ℕ) (x : SessionError) where
  pub refused_of : (why : EditError) → x ≡ errors.Refused why → Applies old edit (Err x) new → Spends edit_cost old edit (Err x) new n m
      → (edited old.document edit ≡ Err why) × (new ≡ old) × (m ≡ n)
  refused_of why is applies spends =
      let h = subst (λ (e : SessionError). Applies old edit (Err e) new) is applies in
      (h.1, h.3, subst (λ (e : SessionError). Spends edit_cost old edit (Err e) new n m) is spends)

  pub memory_of : x ≡ errors.Memory → Spends edit_cost old edit (Err x) new n m → (n ≤ m) × BreaksWithin edit_cost old edit (edited old.document edit) n m
  memory_of is spends = subst (λ (e : SessionError). Spends edit_cost old edit (Err e) new n m) is spends

module _ (s : OpenState) (author : ℕ) (edit : Edit) (next : OpenState → Told) where
  abbrev pub told_by : Result Document EditError → Told
  told_by r = edit_told s author edit r next

  module _ (r : Result (Unit {0}) BreakOff) (taken taken' : Option (List ℕ)) (n m : ℕ) where
    made_at : (d : Document) (found : List Entry) → IsFound (with_names s.session.set d.forest) d found
        → Wrote r taken taken' (made_reply (after_edit s.session d found)) → Counts n m (edit_cost s.session edit (after_edit s.session d found))
        → Answers (told_by (Ok d)) r (trace taken n) (trace taken' m) (λ done. next (with_edit s author edit d found))
    made_at d found is w counts =
        looked_answers (with_names s.session.set d.forest) d
        (λ (es : List Entry). says (made_said s.session edit (after_edit s.session d es)) (next (with_edit s author edit d es))) found r (trace taken n) (trace taken' m)
        (λ done. next (with_edit s author edit d found)) is
        (said_answers (made_said s.session edit (after_edit s.session d found)) (λ done. next (with_edit s author edit d found)) (next (with_edit s author edit d found)) r taken taken' n m
        (λ done. refl) w counts.later counts.few)

    -- an edit was made, and its reply was written, or broken off
    pub made_answers : (new : OpenState) → IsEdited s.session edit new.session → new ≡ with_edit s author edit new.session.document new.session.found
        → Wrote r taken taken' (made_reply new.session) → Counts n m (edit_cost s.session edit new.session)
        → Answers (told_by (edited s.session.document edit)) r (trace taken n) (trace taken' m) (λ done. next new)
    made_answers new e behind w counts =
        let d = new.session.document in
        let found = new.session.found in
        subst (λ (x : OpenState). Answers (told_by (edited s.session.document edit)) r (trace taken n) (trace taken' m) (λ done. next x)) (sym behind)
        (subst (λ (x : Result Document EditError). Answers (told_by x) r (trace taken n) (trace taken' m) (λ done. next (with_edit s author edit d found))) (sym e.document_is)
        (made_at d found e.found_is
        (subst (λ (x : State). Wrote r taken taken' (made_reply x)) e.new_is w)
        (subst (λ (x : State). Counts n m (edit_cost s.session edit x)) e.new_is counts)))

    -- it was refused
    pub refused_answers : (why : EditError) (new : OpenState) → edited s.session.document edit ≡ Err why → new ≡ s → m ≡ n
        → Wrote r taken taken' (refusal (refusals.number_of why) (refusals.name_of why))
        → Answers (told_by (edited s.session.document edit)) r (trace taken n) (trace taken' m) (λ done. next new)
    refused_answers why new refused same steps w =
        subst (λ (x : Result Document EditError). Answers (told_by x) r (trace taken n) (trace taken' m) (λ done. next new)) (sym refused)
        (subst (λ (x : OpenState). Answers (told_by (Err why)) r (trace taken n) (trace taken' m) (λ done. next x)) (sym same)
        (subst (λ (k : ℕ). Answers (told_by (Err why)) r (trace taken n) (trace taken' k) (λ done. next s)) (sym steps)
        (free_answers (refusal (refusals.number_of why) (refusals.name_of why)) (λ done. next s) (next s) r taken taken' n (λ done. refl) w)))

  -- memory was wanting for it
  broken_by : (r : Result Document EditError) (taken : Option (List ℕ)) (n m : ℕ) → n ≤ m → BreaksWithin edit_cost s.session edit r n m
      → Breaks (told_by r) Memory (trace taken n) (trace taken m)
  broken_by (Ok d) taken n m later h =
      looks_breaks (with_names s.session.set d.forest) d
      (λ (es : List Entry). says (made_said s.session edit (after_edit s.session d es)) (next (with_edit s author edit d es)))
      (λ (es : List Entry). edit_cost s.session edit (after_edit s.session d es)) taken taken n m (λ es k within. within) refl later (λ es is. (h es is).few)
  broken_by (Err e) taken n m later h =
      subst (λ (k : ℕ). Breaks (told_by (Err e)) Memory (trace taken n) (trace taken k)) (sym h) (memory_breaks (told_by (Err e)) (trace taken n))

  pub broken_answers : (taken : Option (List ℕ)) (n m : ℕ) → (n ≤ m) × BreaksWithin edit_cost s.session edit (edited s.session.document edit) n m
      → Breaks (told_by (edited s.session.document edit)) Memory (trace taken n) (trace taken m)
  broken_answers taken n m h = broken_by (edited s.session.document edit) taken n m h.0 h.1
