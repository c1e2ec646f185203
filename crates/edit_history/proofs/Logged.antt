-- Logs of changes by numbers, and the histories that they lead through.
use Rattle.std.proofs.Common.{◌≡◌, ℕ, ◌≤◌, List, [], ◌∷◌, true, Ok, Option, None, Some, sym, ap, subst}
use Rattle.std.specs.Option.{MatchOption}
use Rattle.std.specs.Prelude.{slice_get}
use Rattle.circular_buffer.specs.Buffer.{last_item}
use Rattle.xs_names.specs.Names.{NameTable, IsSound, Grown}
use Rattle.tree_rows.specs.Forest.{Forest, Document}
use Rattle.tree_rows.specs.Whole.{IsTree}
use Rattle.tree_edits.specs.Edits.{can_be_made}
use Rattle.tree_edits.specs.Tests.{edited}
use Rattle.tree_edits.specs.declared.edit.Edit.{Edit}
use Rattle.tree_edits.proofs.Testing.{edited_keeps}
use Rattle.tree_edits.specs.Inverses.{changed, inverse_of, Fits}
use Rattle.tree_edits.specs.EditChanges.{change_of}
use Rattle.doc_tree.specs.Changes.{Means}
use Rattle.doc_tree.specs.Leads.{document, Leads}
use Rattle.doc_tree.specs.declared.change.Change.{Change}
use Rattle.doc_tree.proofs.Leading.{leads_on, leads_back, edit_leads_back}
use Rattle.edit_history.specs.Log.{Log, noted, with_undo_taken, with_undo_answered, with_redo_taken, with_redo_answered}
use Rattle.edit_history.specs.History as histories
use Rattle.edit_history.specs.History.{History, LeadBack, LeadOn, IsLogOf, first_or, undone, redone}
use Rattle.edit_history.proofs.Histories.{edited_on, undone_on, redone_on}
use Rattle.edit_history.specs.Steps.{GoesTo}

-- ---- where each step leads somewhere else too, the log does

module _ {S D : Type 0} (L M : S → D → D → Type 0) (into : (s : S) (d e : D) → L s d e → M s d e) where
  back_into : (ss : List S) (ds : List D) (present : D) → LeadBack L ss ds present → LeadBack M ss ds present
  back_into [] [] present h = tt
  back_into [] (d ∷ ds) present h = absurd h
  back_into (s ∷ ss) [] present h = absurd h
  back_into (s ∷ ss) (d ∷ ds) present h = (into s (first_or ds present) d h.0, back_into ss ds present h.1)

  on_into : (ss : List S) (ds : List D) (present : D) → LeadOn L ss ds present → LeadOn M ss ds present
  on_into [] [] present h = tt
  on_into [] (d ∷ ds) present h = absurd h
  on_into (s ∷ ss) [] present h = absurd h
  on_into (s ∷ ss) (d ∷ ds) present h = (into s present d h.0, on_into ss ds d h.1)

  log_into : (log : Log S) (h : History D) → IsLogOf L log h → IsLogOf M log h
  log_into log h is = record { past = back_into log.past h.past h.present is.past; future = on_into log.future h.future h.present is.future }

pub log_on : (t u : NameTable) (free more : ℕ) (log : Log Change) (h : History Forest) → IsSound t → Grown t u → free ≤ more → IsLogOf (Leads t free) log h → IsLogOf (Leads u more) log h
log_on t u free more log h sound g l is = log_into (Leads t free) (Leads u more) (λ s old new leads. leads_on t u free more s old new sound g l leads) log h is

pub edit_logged : (t u : NameTable) (log : Log Change) (h : History Forest) (d e : Document) (edit : Edit) (back : Change) → IsSound t → Grown t u
    → can_be_made edit ≡ true → IsTree d → h.present ≡ d.forest → IsLogOf (Leads t d.next_free) log h → edited d edit ≡ Ok e
    → Means u back (inverse_of d (change_of d edit)) → IsLogOf (Leads u e.next_free) (noted log back) (histories.edited log.depth h e.forest)
edit_logged t u log h d e edit back sound g can tree same is ok means =
    let free = (edited_keeps d edit e tree ok).numbers.free in
    edited_on (Leads u e.next_free) log h e.forest back (log_on t u d.next_free e.next_free log h sound g free is)
    (subst (Leads u e.next_free back e.forest) (sym same) (edit_leads_back u d e edit back can tree ok means))

-- ---- the step that is taken

match_weaker : {A : Type 0} (P : Type 0) (o : Option A) (Q R : A → Type 0) → ((x : A) → Q x → R x) → MatchOption o P Q → MatchOption o P R
match_weaker P None Q R f m = m
match_weaker P (Some x) Q R f m = f x m

goes : (t : NameTable) (d : Document) (h g : History Forest) (step : Change) (answered : Change → Type 0) → IsTree d → h.present ≡ d.forest
    → Leads t d.next_free step h.present g.present → ((back : Change) → Leads t d.next_free back g.present h.present → answered back) → GoesTo t d step g answered
goes t d h g step answered tree same leads answer =
    let fits : Fits d leads.own = subst (λ (f : Forest). Fits (document f d.next_free) leads.own) same leads.fits in
    let makes : changed d leads.own ≡ document g.present d.next_free = subst (λ (f : Forest). changed (document f d.next_free) leads.own ≡ document g.present d.next_free) same leads.makes in
    record {
      own = leads.own;
      means = leads.means;
      fits = fits;
      makes = makes;
      inverse = λ back means.
          let led = leads_back t d leads.own back tree fits means in
          answer back
          (subst (λ (f : Forest). Leads t d.next_free back g.present f) (sym same)
          (subst (λ (f : Forest). Leads t d.next_free back f d.forest) (ap (λ (x : Document). x.forest) makes) led));
    }

module _ (t : NameTable) (log : Log Change) (h : History Forest) (d : Document) (tree : IsTree d) (same : h.present ≡ d.forest) (is : IsLogOf (Leads t d.next_free) log h) where
  pub undo_logged : MatchOption (last_item log.past) (undone h ≡ None) (λ step. (g : History Forest) × (undone h ≡ Some g)
      × GoesTo t d step g (λ back. IsLogOf (Leads t d.next_free) (with_undo_answered (with_undo_taken log) back) g))
  undo_logged = match_weaker (undone h ≡ None) (last_item log.past) _ _ (λ step q. (q.0, q.1, goes t d h q.0 step _ tree same q.2 q.3)) (undone_on (Leads t d.next_free) log h is)

  pub redo_logged : MatchOption (slice_get log.future 0) (redone h ≡ None) (λ step. (g : History Forest) × (redone h ≡ Some g)
      × GoesTo t d step g (λ back. IsLogOf (Leads t d.next_free) (with_redo_answered (with_redo_taken log) back) g))
  redo_logged = match_weaker (redone h ≡ None) (slice_get log.future 0) _ _ (λ step q. (q.0, q.1, goes t d h q.0 step _ tree same q.2 q.3)) (redone_on (Leads t d.next_free) log h is)
