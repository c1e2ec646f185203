-- A log leads through one history.
use Rattle.std.proofs.Common.{◌≡◌, ℕ, List, [], ◌∷◌, map, refl, sym, ap, ◌∙◌}
use Rattle.xs_names.specs.Names.{NameTable, IsSound, Grown}
use Rattle.tree_rows.specs.Forest.{Forest, Document}
use Rattle.doc_tree.specs.Leads.{document, Leads}
use Rattle.doc_tree.specs.declared.change.Change.{Change}
use Rattle.edit_history.specs.Log.{Log}
use Rattle.edit_history.specs.History.{History, history_of, first_or, LeadBack, LeadOn, IsLogOf}
use Rattle.edit_history.specs.Meant.{meant, meant_log}
use Rattle.edit_history.specs.Through.{made, trees_back, trees_on, history_through}
use Rattle.edit_history.proofs.Meaning.{meant_is, meant_stays}

module _ (t : NameTable) (free : ℕ) where
  leads_made : (s : Change) (old new : Forest) → Leads t free s old new → new ≡ made free old (meant t s)
  leads_made s old new leads = sym (ap (made free old) (meant_is t s leads.own leads.means) ∙ ap (λ (d : Document). d.forest) leads.makes)

  back_are : (ss : List Change) (ds : List Forest) (present : Forest) → LeadBack (Leads t free) ss ds present → ds ≡ trees_back free (map (meant t) ss) present
  back_are [] [] present h = refl
  back_are [] (d ∷ ds) present h = absurd h
  back_are (s ∷ ss) [] present h = absurd h
  back_are (s ∷ ss) (d ∷ ds) present h =
      ap (λ x. x ∷ ds) (leads_made s (first_or ds present) d h.0)
      ∙ ap (λ l. made free (first_or l present) (meant t s) ∷ l) (back_are ss ds present h.1)

  on_are : (ss : List Change) (ds : List Forest) (present : Forest) → LeadOn (Leads t free) ss ds present → ds ≡ trees_on free (map (meant t) ss) present
  on_are [] [] present h = refl
  on_are [] (d ∷ ds) present h = absurd h
  on_are (s ∷ ss) [] present h = absurd h
  on_are (s ∷ ss) (d ∷ ds) present h =
      ap (λ l. d ∷ l) (on_are ss ds d h.1) ∙ ap (λ x. x ∷ trees_on free (map (meant t) ss) x) (leads_made s present d h.0)

  pub one_history : (log : Log Change) (h : History Forest) → IsLogOf (Leads t free) log h → history_through (document h.present free) (meant_log t log) ≡ h
  one_history log h is = sym (λ i. history_of (back_are log.past h.past h.present is.past i) h.present (on_are log.future h.future h.present is.future i))

-- what a log means where the table has more names
module _ (t u : NameTable) (free : ℕ) (sound : IsSound t) (g : Grown t u) where
  step_stays : (s : Change) (old new : Forest) → Leads t free s old new → meant u s ≡ meant t s
  step_stays s old new leads = meant_stays t u sound g s leads.own leads.means

  back_stays : (ss : List Change) (ds : List Forest) (present : Forest) → LeadBack (Leads t free) ss ds present → map (meant u) ss ≡ map (meant t) ss
  back_stays [] ds present h = refl
  back_stays (s ∷ ss) [] present h = absurd h
  back_stays (s ∷ ss) (d ∷ ds) present h = λ i. step_stays s (first_or ds present) d h.0 i ∷ back_stays ss ds present h.1 i

  pub past_stays : (log : Log Change) (h : History Forest) → IsLogOf (Leads t free) log h → map (meant u) log.past ≡ map (meant t) log.past
  past_stays log h is = back_stays log.past h.past h.present is.past
