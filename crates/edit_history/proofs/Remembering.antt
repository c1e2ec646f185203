-- What is logged is remembered.
use Rattle.std.proofs.Common.{◌≡◌, ℕ, ◌-◌, List, [], ◌∷◌, ◌++◌, length, map, take, drop, true, Ok, Option, None, Some, refl, sym, ap, ◌∙◌, subst}
use Rattle.std.specs.Prelude.{slice_get, MatchOption}
use Rattle.std.specs.Option.{option_map}
use Rattle.std.proofs.lemmas.List.{length-map, map_push, take-map, drop-map}
use Rattle.std.proofs.lemmas.Option.{slice_get-map}
use Rattle.circular_buffer.specs.Buffer.{keep_last, last_item}
use Rattle.xs_names.specs.Names.{NameTable, IsSound, Grown}
use Rattle.tree_rows.specs.Forest.{Forest, Document}
use Rattle.tree_rows.specs.Whole.{IsTree}
use Rattle.tree_edits.specs.Edits.{can_be_made}
use Rattle.tree_edits.specs.Tests.{edited}
use Rattle.tree_edits.specs.declared.edit.Edit.{Edit}
use Rattle.tree_edits.specs.Inverses.{changed, inverse_of}
use Rattle.tree_edits.specs.Inverses as law
use Rattle.tree_edits.specs.EditChanges.{change_of}
use Rattle.doc_tree.specs.Changes.{Means}
use Rattle.doc_tree.specs.Leads.{document, Leads}
use Rattle.doc_tree.specs.declared.change.Change.{Change}
use Rattle.edit_history.specs.Log.{Log, log_of, noted, with_undo_taken, with_undo_answered, with_redo_taken, with_redo_answered}
use Rattle.edit_history.specs.History as histories
use Rattle.edit_history.specs.History.{History, IsLogOf, undone, redone}
use Rattle.edit_history.specs.declared.log.Taken.TheVariants.{Nothing}
use Rattle.edit_history.specs.Steps.{GoesTo}
use Rattle.edit_history.proofs.Logged.{edit_logged, undo_logged, redo_logged}
use Rattle.edit_history.specs.Meant.{meant, meant_log}
use Rattle.edit_history.specs.Through.{history_through, IsLogged, Remembers, StepsTo, Gives}
use Rattle.edit_history.proofs.Meaning.{meant_is}
use Rattle.edit_history.proofs.Leading.{one_history, past_stays}

-- a log that leads through a history remembers it
remembered : (t : NameTable) (free : ℕ) (log : Log Change) (h : History Forest) (l : Log law.Change) → IsLogOf (Leads t free) log h → log.taken ≡ Nothing → meant_log t log ≡ l
    → Remembers t (document h.present free) log h l
remembered t free log h l is answered means =
    let one = one_history t free log h is in
    record {
      logged = record { leads = subst (IsLogOf (Leads t free) log) (sym one) is; answered = answered };
      history_is = one;
      log_is = means;
    }

keep_last-map : {X Y : Type 0} (f : X → Y) (n : ℕ) (xs : List X) → map f (keep_last n xs) ≡ keep_last n (map f xs)
keep_last-map f n xs = sym (ap (λ k. drop (k - n) (map f xs)) (length-map xs f) ∙ drop-map f (length xs - n) xs)

last_item-map : {X Y : Type 0} (f : X → Y) (xs : List X) → last_item (map f xs) ≡ option_map f (last_item xs)
last_item-map f xs = ap (λ k. slice_get (map f xs) (k - 1)) (length-map xs f) ∙ slice_get-map f xs (length xs - 1)

-- all but the last
but_last-map : {X Y : Type 0} (f : X → Y) (xs : List X) → map f (take (length xs - 1) xs) ≡ take (length (map f xs) - 1) (map f xs)
but_last-map f xs = sym (ap (λ k. take (k - 1) (map f xs)) (length-map xs f) ∙ take-map f (length xs - 1) xs)

pub edit_remembered : (t u : NameTable) (log : Log Change) (d e : Document) (edit : Edit) (back : Change) → IsSound t → Grown t u → can_be_made edit ≡ true
    → IsTree d → IsLogged t d log → edited d edit ≡ Ok e → Means u back (inverse_of d (change_of d edit))
    → Remembers u e (noted log back) (histories.edited log.depth (history_through d (meant_log t log)) e.forest) (noted (meant_log t log) (inverse_of d (change_of d edit)))
edit_remembered t u log d e edit back sound g can tree is ok means =
    let h = history_through d (meant_log t log) in
    let inverse = inverse_of d (change_of d edit) in
    let past_is : map (meant u) (log.past ++ back ∷ []) ≡ map (meant t) log.past ++ inverse ∷ [] =
    map_push (meant u) log.past back ∙ (λ i. past_stays t u d.next_free sound g log h is.leads i ++ meant_is u back inverse means i ∷ []) in
    remembered u e.next_free (noted log back) (histories.edited log.depth h e.forest) (noted (meant_log t log) inverse)
    (edit_logged t u log h d e edit back sound g can tree refl is.leads ok means) is.answered
    (ap (λ past. log_of log.depth past [] log.taken) (keep_last-map (meant u) log.depth (log.past ++ back ∷ []) ∙ ap (keep_last log.depth) past_is))

-- ---- the step that is taken

module _ (t : NameTable) (d : Document) (answered : Change → Log Change) (answered_by : law.Change → Log law.Change)
    (settled : (back : Change) → (answered back).taken ≡ Nothing) (means_so : (back : Change) → meant_log t (answered back) ≡ answered_by (meant t back)) where
  steps_to : (step : Change) (h : History Forest) (goes : GoesTo t d step h (λ back. IsLogOf (Leads t d.next_free) (answered back) h)) → StepsTo t d answered answered_by step h goes.own
  steps_to step h goes = record {
    means = goes.means;
    fits = goes.fits;
    makes = goes.makes;
    remembers = λ back means.
        remembered t d.next_free (answered back) h (answered_by (inverse_of d goes.own)) (goes.inverse back means) (settled back)
        (means_so back ∙ ap answered_by (meant_is t back (inverse_of d goes.own) means));
  }

  gives : (step : Option Change) (next : Option (History Forest)) (own : Option law.Change) → own ≡ option_map (meant t) step
      → MatchOption step (next ≡ None) (λ it. (h : History Forest) × (next ≡ Some h) × GoesTo t d it h (λ back. IsLogOf (Leads t d.next_free) (answered back) h))
      → Gives t d answered answered_by step next own
  gives None next own is m = (m, is)
  gives (Some it) next own is m = (m.0, m.2.own, m.1, is ∙ ap (λ (c : law.Change). Some c) (meant_is t it m.2.own m.2.means), steps_to it m.0 m.2)

module _ (t : NameTable) (log : Log Change) (d : Document) (tree : IsTree d) (is : IsLogged t d log) where
  pub undo_remembered : Gives t d (with_undo_answered (with_undo_taken log)) (with_undo_answered (with_undo_taken (meant_log t log)))
      (last_item log.past) (undone (history_through d (meant_log t log))) (last_item (meant_log t log).past)
  undo_remembered =
      gives t d (with_undo_answered (with_undo_taken log)) (with_undo_answered (with_undo_taken (meant_log t log))) (λ back. refl)
      (λ back i. log_of log.depth (but_last-map (meant t) log.past i) (meant t back ∷ map (meant t) log.future) Nothing)
      (last_item log.past) (undone (history_through d (meant_log t log))) (last_item (meant_log t log).past) (last_item-map (meant t) log.past)
      (undo_logged t log (history_through d (meant_log t log)) d tree refl is.leads)

  pub redo_remembered : Gives t d (with_redo_answered (with_redo_taken log)) (with_redo_answered (with_redo_taken (meant_log t log)))
      (slice_get log.future 0) (redone (history_through d (meant_log t log))) (slice_get (meant_log t log).future 0)
  redo_remembered =
      gives t d (with_redo_answered (with_redo_taken log)) (with_redo_answered (with_redo_taken (meant_log t log))) (λ back. refl)
      (λ back i. log_of log.depth (map_push (meant t) log.past back i) (sym (drop-map (meant t) 1 log.future) i) Nothing)
      (slice_get log.future 0) (redone (history_through d (meant_log t log))) (slice_get (meant_log t log).future 0) (slice_get-map (meant t) log.future 0)
      (redo_logged t log (history_through d (meant_log t log)) d tree refl is.leads)
