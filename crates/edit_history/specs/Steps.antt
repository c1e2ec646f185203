-- What a step of a log makes of the present document.
use Rattle.std.specs.Prelude.{◌≡◌}
use Rattle.xs_names.specs.Names.{NameTable}
use Rattle.tree_rows.specs.Forest.{Forest, Document}
use Rattle.tree_edits.specs.Inverses.{changed, inverse_of, Fits}
use Rattle.tree_edits.specs.Inverses as law
use Rattle.doc_tree.specs.Changes.{Means}
use Rattle.doc_tree.specs.Leads.{document}
use Rattle.doc_tree.specs.declared.change.Change.{Change}
use Rattle.edit_history.specs.History.{History}

-- the step is a change that can be made of the document and gives the present tree of a history, where the next free number stays; what is
-- answered by its inverse is so
pub record GoesTo (t : NameTable) (d : Document) (step : Change) (g : History Forest) (answered : Change → Type 0) : Type 0 where
  pub own : law.Change
  pub means : Means t step own
  pub fits : Fits d own
  pub makes : changed d own ≡ document g.present d.next_free
  pub inverse : (back : Change) → Means t back (inverse_of d own) → answered back
