-- A change that is made.
use Rattle.std.proofs.Common.{◌≡◌, sym, subst}
use Rattle.xs_names.specs.Names.{NameTable}
use Rattle.tree_rows.specs.Forest.{Document}
use Rattle.doc_nodes.specs.Nodes.{Nodes}
use Rattle.doc_changes.specs.Stands.{StandsFor}
use Rattle.doc_edits.specs.Changes.{changed, CanMake, IsMade}
use Rattle.doc_edits.specs.declared.change.Change.{Change}

module _ (change same : Change) (is : change ≡ same) where
  pub can_same : (t : NameTable) (ns : Nodes) (d : Document) → CanMake t ns d change → CanMake t ns d same
  can_same t ns d can = subst (CanMake t ns d) is can

  pub made_same : (t u : NameTable) (old new : Nodes) → ((d : Document) → StandsFor t old d → StandsFor u new (changed u d same)) → (d : Document) → StandsFor t old d → StandsFor u new (changed u d change)
  made_same t u old new f d z = subst (λ c. StandsFor u new (changed u d c)) (sym is) (f d z)

  pub nodes_same : (u : NameTable) (old new : Nodes) → IsMade u old new same → IsMade u old new change
  nodes_same u old new m = subst (IsMade u old new) (sym is) m
