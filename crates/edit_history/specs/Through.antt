-- The history that a log leads through, as a function of the log and of the present document.
use Rattle.std.specs.Prelude.{◌≡◌, ℕ, List, [], ◌∷◌, Option, None, Some, MatchOption}
use Rattle.xs_names.specs.Names.{NameTable}
use Rattle.tree_rows.specs.Forest.{Forest, Document}
use Rattle.tree_edits.specs.Inverses.{changed, inverse_of, Fits}
use Rattle.tree_edits.specs.Inverses as law
use Rattle.doc_tree.specs.Changes.{Means}
use Rattle.doc_tree.specs.Leads.{document, Leads}
use Rattle.doc_tree.specs.declared.change.Change.{Change}
use Rattle.edit_history.specs.Log.{Log}
use Rattle.edit_history.specs.History.{History, history_of, first_or, IsLogOf}
use Rattle.edit_history.specs.declared.log.Taken.TheVariants.{Nothing}
use Rattle.edit_history.specs.Meant.{meant_log}

-- the tree that a change makes of another, where this is the next free number
abbrev pub made : ℕ → Forest → law.Change → Forest
made free f c = (changed (document f free) c).forest

-- the trees that changes lead back to: the last change from the present tree, and each other one from the tree right behind its own
abbrev pub trees_back : ℕ → List law.Change → Forest → List Forest
trees_back free [] present = []
trees_back free (c ∷ cs) present = made free (first_or (trees_back free cs present) present) c ∷ trees_back free cs present

-- the trees that changes lead on to, the first change from the present tree
abbrev pub trees_on : ℕ → List law.Change → Forest → List Forest
trees_on free [] present = []
trees_on free (c ∷ cs) present = made free present c ∷ trees_on free cs (made free present c)

abbrev pub history_through : Document → Log law.Change → History Forest
history_through d log = history_of (trees_back d.next_free log.past d.forest) d.forest (trees_on d.next_free log.future d.forest)

-- a log of changes by numbers leads through its history, and what was taken off it was answered
pub record IsLogged (t : NameTable) (d : Document) (log : Log Change) : Type 0 where
  pub leads : IsLogOf (Leads t d.next_free) log (history_through d (meant_log t log))
  pub answered : log.taken ≡ Nothing

-- and the history is this one, and the log means this one
pub record Remembers (t : NameTable) (d : Document) (log : Log Change) (h : History Forest) (l : Log law.Change) : Type 0 where
  pub logged : IsLogged t d log
  pub history_is : history_through d (meant_log t log) ≡ h
  pub log_is : meant_log t log ≡ l

-- The step of a log is a change that can be made of the document. It gives the present tree of this history, where the next free number stays; and
-- once it is answered by its inverse, that history is remembered.
module _ (t : NameTable) (d : Document) (answered : Change → Log Change) (answered_by : law.Change → Log law.Change) where
  pub record StepsTo (step : Change) (h : History Forest) (own : law.Change) : Type 0 where
    pub means : Means t step own
    pub fits : Fits d own
    pub makes : changed d own ≡ document h.present d.next_free
    pub remembers : (back : Change) → Means t back (inverse_of d own)
        → Remembers t (document h.present d.next_free) (answered back) h (answered_by (inverse_of d own))

  -- What a log gives, where the history has this next to the present tree and the log means this change: none where there is none, and else a
  -- step that leads there.
  abbrev pub Gives : Option Change → Option (History Forest) → Option law.Change → Type 0
  Gives step next own = MatchOption step ((next ≡ None) × (own ≡ None))
      (λ it. (h : History Forest) × (c : law.Change) × (next ≡ Some h) × (own ≡ Some c) × StepsTo it h c)
