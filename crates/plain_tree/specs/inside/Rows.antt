-- The names of rows.
use Rattle.std.specs.Prelude.{List, [], ◌∷◌}
use Rattle.xs_names.specs.Names.{NameTable}
use Rattle.tree_rows.specs.declared.row.Attribute.{Attribute}
use Rattle.tree_rows.specs.declared.row.Binding.{Binding}
use Rattle.tree_rows.specs.declared.row.Content.{Content}
use Rattle.tree_rows.specs.declared.row.Content.TheVariants as contents
use Rattle.tree_rows.specs.declared.row.Row.{Row}
use Rattle.plain_tree.specs.Table.{with_tag}

abbrev pub with_content : NameTable → Content → List Binding → List Attribute → NameTable
with_content t (contents.Element name) bindings attributes = with_tag t name bindings attributes
with_content t (contents.Chars chars) bindings attributes = t

abbrev pub with_row : NameTable → Row → NameTable
with_row t row = with_content t row.content row.bindings row.attributes

abbrev pub with_rows : NameTable → List Row → NameTable
with_rows t [] = t
with_rows t (row ∷ rows) = with_rows (with_row t row) rows
