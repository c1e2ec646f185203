-- The table of names with those that an edit brings.
use Rattle.xs_names.specs.Names.{NameTable}
use Rattle.tree_rows.specs.Forest.{Document}
use Rattle.tag_names.specs.Scopes.{first_scope}
use Rattle.tree_building.specs.Building.{block}
use Rattle.tree_edits.specs.Edits.{scope_in}
use Rattle.tree_edits.specs.Tests.{new_name, attribute_named}
use Rattle.tree_edits.specs.declared.edit.Edit.{Edit}
use Rattle.tree_edits.specs.declared.edit.Edit.TheVariants as edits
use Rattle.plain_tree.specs.Table.{with_expanded, document_table}

-- the names of a block, in document order; the new name of an element; that of an attribute which is set
abbrev pub table_with : NameTable → Document → Edit → NameTable
table_with t d (edits.Insert parent place its) = document_table t (block (scope_in parent first_scope d.forest) its)
table_with t d (edits.AddText parent place chars) = t
table_with t d (edits.SetText key chars) = t
table_with t d (edits.Remove key) = t
table_with t d (edits.Rename key name) = with_expanded t (new_name d key name)
table_with t d (edits.SetAttr key name value) = with_expanded t (attribute_named d key name)
table_with t d (edits.UnsetAttr key name) = t
