-- A document was opened, and its report or the first line of its session was written.
use Rattle.std.proofs.Common.{◌≡◌, ◌≤◌, ◌+◌, ℕ, List, Option, Result, Err, IfOk, refl, subst}
use Rattle.tree_rows.specs.Forest.{Document}
use Rattle.assessment.specs.Assessment.{Entry}
use Rattle.session_model.specs.State.{with_names}
use Rattle.told.specs.Told.{Said, Told, says}
use Rattle.told.specs.Going.{trace, Answers}
use Rattle.told.specs.Tells.{Wrote}
use Rattle.told.specs.declared.break_off.BreakOff.{BreakOff}
use Rattle.told.specs.declared.break_off.BreakOff.TheVariants.{Memory}
use Rattle.told.proofs.Saying.{said_where, looks_breaks, looked_answers}
use Rattle.open_document.specs.Answers.{IsOpenedBy, opened, opening_cost}
use Rattle.open_document.specs.State.{Basis, OpenState, WorkState}
use Rattle.stream_answers.specs.Output.{opening, opening_told}
use Rattle.stream_answers.specs.declared.wanted.Wanted.{Wanted}

module _ (w : Wanted) (basis : Basis) (d : Document) (next : OpenState → Told) where
  abbrev said_by : OpenState → Said
  said_by s = record { text = opening w.asked s; cost = opening_cost d }

  abbrev told_of : List Entry → Told
  told_of found = says (said_by (opened w.most basis d found)) (next (opened w.most basis d found))

  pub opening_answers : {T : Type 0} (work : WorkState) (h : IsOpenedBy w.most basis d work) (r : Result T BreakOff) (old new : Option (List ℕ)) (n m : ℕ) (after : T → Told)
      → Wrote r old new (opening w.asked h.document) → n ≤ m → m ≤ n + opening_cost d → IfOk r (λ x. after x ≡ next h.document)
      → Answers (opening_told w basis d next) r (trace old n) (trace new m) after
  opening_answers work h r old new n m after wrote later few is =
      looked_answers (with_names basis.set d.forest) d told_of h.document.session.found r (trace old n) (trace new m) after h.found_is
      (subst (λ (s : OpenState). Answers (says (said_by s) (next s)) r (trace old n) (trace new m) after) h.document_is
      (said_where (said_by h.document) after (next h.document) r old new n m is wrote later few))

  pub opening_breaks : {T : Type 0} (taken : Option (List ℕ)) (n m : ℕ) (after : T → Told) → n ≤ m → m ≤ n + opening_cost d
      → Answers (opening_told w basis d next) (Err Memory) (trace taken n) (trace taken m) after
  opening_breaks taken n m after later few =
      looks_breaks (with_names basis.set d.forest) d told_of (λ found. opening_cost d) taken taken n m (λ found k h. h) refl later (λ found is. few)
