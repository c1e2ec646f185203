-- What edits touch, by the changes that they are.
use Rattle.std.proofs.Common.{◌≡◌, refl}
use Rattle.tree_rows.specs.Forest.{Document, Forest}
use Rattle.tree_edits.specs.declared.edit.Edit.{Edit}
use Rattle.tree_edits.specs.declared.edit.Edit.TheVariants as edits
use Rattle.tree_edits.specs.EditChanges.{change_of}
use Rattle.open_document.specs.Touches.{touched, touches}

pub touched_so : (d : Document) (edit : Edit) (f : Forest) → touches (change_of d edit) f ≡ touched edit f
touched_so d (edits.Insert parent place its) f = refl
touched_so d (edits.AddText parent place chars) f = refl
touched_so d (edits.SetText key chars) f = refl
touched_so d (edits.Remove key) f = refl
touched_so d (edits.Rename key name) f = refl
touched_so d (edits.SetAttr key name value) f = refl
touched_so d (edits.UnsetAttr key name) f = refl
