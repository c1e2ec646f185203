-- The list of a node's children, where only the turns of one author change it.
use Rattle.std.specs.Prelude.{◌≡◌, ◌⊎◌, ℕ, List, [], ◌∷◌, ◌++◌, Option, Some, None}
use Rattle.tree_edits.specs.declared.edit.Edit.{Edit}
use Rattle.tree_edits.specs.declared.edit.Edit.TheVariants as edits
use Rattle.edit_history.specs.declared.turn.Turn.{Turn}
use Rattle.told.specs.Told.{Said}
use Rattle.xsv_run.specs.from_open_document.State.{OpenState}
use Rattle.xsv_run.specs.Authors.{Read}
use Rattle.xsv_run.specs.Complete.{IsReply}
use Rattle.turn_laws.specs.Lists.{Child, list_at}

-- the node into whose children an edit puts something
abbrev pub puts_into : Edit → Option ℕ
puts_into (edits.Insert parent place its) = Some parent
puts_into (edits.AddText parent place chars) = Some parent
puts_into (edits.SetText node chars) = None
puts_into (edits.Remove node) = None
puts_into (edits.Rename node name) = None
puts_into (edits.SetAttr node name value) = None
puts_into (edits.UnsetAttr node name) = None

-- of the children of an element of the present tree
abbrev pub list_of_children : OpenState → ℕ → Option (List Child)
list_of_children s parent = list_at parent s.session.document.forest

module _ (author parent : ℕ) where
  -- between two documents stands a turn of the author that touched the list
  abbrev pub IsOwnTurn : OpenState → OpenState → Type 0
  IsOwnTurn s next = (t : Turn) × (next.turns ≡ s.turns ++ t ∷ []) × (t.author ≡ author) × (t.keys.list ≡ Some parent)

  -- such a turn finds the list, and leaves the new one; all else leaves it as it is
  abbrev pub IsListBehind : OpenState → OpenState → List Child → List Child → Type 0
  IsListBehind s next old new =
      (IsOwnTurn s next × (list_of_children s parent ≡ Some old) × (list_of_children next parent ≡ Some new)) ⊎ ((IsOwnTurn s next → ⊥) × (new ≡ old))

  -- behind lines and their answers: the list, changed by the author's own turns alone
  abbrev pub IsListBehindAll : OpenState → List Read → List Said → OpenState → List Child → List Child → Type 0
  IsListBehindAll s [] [] last old new = (last ≡ s) × (new ≡ old)
  IsListBehindAll s [] (own ∷ more) last old new = ⊥
  IsListBehindAll s (read ∷ reads) [] last old new = ⊥
  IsListBehindAll s (read ∷ reads) (own ∷ more) last old new =
      (next : OpenState) × (between : List Child) × IsReply s read own next × IsListBehind s next old between × IsListBehindAll next reads more last between new
