-- The child list that an edit changes.
use Rattle.std.specs.Prelude.{ℕ, ◌==◌, Option, None, Some, if◌then◌else◌}
use Rattle.std.specs.Option.{option_or}
use Rattle.tree_rows.specs.Forest.{Forest, none, text, element}
use Rattle.tree_edits.specs.declared.edit.Edit.{Edit}
use Rattle.tree_edits.specs.declared.edit.Edit.TheVariants as edits

-- the element among whose children the node of a number is, where the siblings have this parent
abbrev pub parent_in : ℕ → Option ℕ → Forest → Option ℕ
parent_in key parent none = None
parent_in key parent (text number chars next) = if number == key then parent else parent_in key parent next
parent_in key parent (element number name bindings attributes children next) =
    if number == key then parent else option_or (parent_in key (Some number) children) (parent_in key parent next)

-- the element whose child is put in, taken away, renamed or given other characters; the root is no child
abbrev pub edited_list : Forest → Edit → Option ℕ
edited_list f (edits.Insert parent place its) = Some parent
edited_list f (edits.AddText parent place chars) = Some parent
edited_list f (edits.SetText key chars) = parent_in key None f
edited_list f (edits.Remove key) = parent_in key None f
edited_list f (edits.Rename key name) = parent_in key None f
edited_list f (edits.SetAttr key name value) = None
edited_list f (edits.UnsetAttr key name) = None
