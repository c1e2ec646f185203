-- Edits of a document as changes: what an edit puts is put back, once its numbers were given out.
use Rattle.std.specs.Prelude.{ℕ, List, Option, Some, None}
use Rattle.tree_rows.specs.Forest.{none, text, Document}
use Rattle.tag_names.specs.Scopes.{first_scope}
use Rattle.tree_building.specs.Building.{block}
use Rattle.tree_edits.specs.Edits.{found, renumbered, scope_in}
use Rattle.tree_edits.specs.Tests.{attributes_of, attribute_named, new_name}
use Rattle.tree_edits.specs.declared.edit.Edit.{Edit}
use Rattle.tree_edits.specs.declared.edit.Edit.TheVariants as edits
use Rattle.tree_rows.specs.declared.name.Expanded.{Expanded}
use Rattle.tree_edits.specs.Sites.{place_of}
use Rattle.tree_edits.specs.Inverses.{Change, put_back, take_out, rename, write, reword}

-- the attribute of the name has a value or is gone, in its place, or behind the others
abbrev pub write_named : Document → ℕ → Expanded → Option (List ℕ) → Change
write_named d key name value = write key name (place_of name (attributes_of (found key 1 d.forest))) value

-- the change that an edit of this document is
abbrev pub change_of : Document → Edit → Change
change_of d (edits.Insert parent place its) = put_back parent place (renumbered d.next_free (block (scope_in parent first_scope d.forest) its))
change_of d (edits.AddText parent place chars) = put_back parent place (renumbered d.next_free (text 0 chars none))
change_of d (edits.SetText key chars) = reword key chars
change_of d (edits.Remove key) = take_out key
change_of d (edits.Rename key name) = rename key (new_name d key name)
change_of d (edits.SetAttr key name value) = write_named d key (attribute_named d key name) (Some value)
change_of d (edits.UnsetAttr key name) = write_named d key (attribute_named d key name) None
