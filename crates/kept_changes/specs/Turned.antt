-- What the nodes of a document have become, where a change of it began at an element.
use Rattle.std.specs.Prelude.{◌≡◌, ℕ, true, Some}
use Rattle.xs_names.specs.Names.{NameTable}
use Rattle.tree_rows.specs.Forest.{Forest}
use Rattle.doc_nodes.specs.Nodes.{Nodes, IsChildAt, is_element_at}
use Rattle.doc_changes.specs.Held.{parent_at}
use Rattle.doc_changes.specs.Parts.{IsOver, Prunes}
use Rattle.doc_edits.specs.declared.change.Change.{Change}
use Rattle.kept_children.specs.Edited.{ComesAt}
use Rattle.kept_changes.specs.Own.{Retexts, Reattributes, Renames}
use Rattle.kept_changes.specs.Spots.{IsSpot}
use Rattle.kept_changes.specs.declared.change.Spot.{Spot}
use Rattle.kept_changes.specs.declared.change.Spot.TheVariants.{Planted, Pruned, Retexted, Attributed, Renamed}

module _ (t : NameTable) (old new : Nodes) where
  -- an element has come, with all that is below it
  pub record Comes (n : ℕ) : Type 0 where
    pub parent : ℕ
    pub place : ℕ
    pub was_element : is_element_at old parent ≡ true
    pub element : is_element_at new n ≡ true
    pub parent_is : parent_at new n ≡ Some parent
    pub comes : ComesAt old new parent place n

  -- one is gone, with all that was below it
  pub record Goes (n : ℕ) : Type 0 where
    pub element : is_element_at old n ≡ true
    pub parent : ℕ
    pub place : ℕ
    pub below : Forest
    pub child : IsChildAt old parent place n
    pub over : IsOver t old n below
    pub prunes : Prunes old new parent place n below

  -- one that was there has other texts, attributes or another name
  abbrev pub TurnsAt : Spot → Type 0
  TurnsAt (Planted n) = Comes n
  TurnsAt (Pruned n) = Goes n
  TurnsAt (Retexted n) = (is_element_at old n ≡ true) × Retexts old new n
  TurnsAt (Attributed n) = (is_element_at old n ≡ true) × Reattributes old new n
  TurnsAt (Renamed n) = (is_element_at old n ≡ true) × Renames old new n

  -- so they are at the element that the change begins at
  abbrev pub AreTurnedBy : Change → Type 0
  AreTurnedBy change = (spot : Spot) × IsSpot old change spot × TurnsAt spot
