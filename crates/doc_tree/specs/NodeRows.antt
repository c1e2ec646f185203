-- The row of a node.
use Rattle.std.specs.Prelude.{◌≡◌, ℕ, ◌<◌, List, [], length, map, All}
use Rattle.xs_names.specs.Names.{NameTable}
use Rattle.tree_rows.specs.declared.row.Row.{Row}
use Rattle.tree_rows.specs.declared.row.Content.TheVariants as rows
use Rattle.doc_nodes.specs.declared.content.Content.{Content}
use Rattle.doc_nodes.specs.declared.content.Content.TheVariants as contents
use Rattle.doc_changes.specs.Stands.{HasNames, expanded_of, attribute_of, binding_of}

-- the row of a node of this number and depth, which holds this
abbrev pub row_in : NameTable → ℕ → ℕ → Content → Row
row_in t number depth (contents.Element e) = record {
  number = number;
  depth = depth;
  content = rows.Element (expanded_of t e.name);
  bindings = map (binding_of t) e.bindings;
  attributes = map (attribute_of t) e.attributes;
}
row_in t number depth (contents.Chars chars) = record { number = number; depth = depth; content = rows.Chars chars; bindings = []; attributes = [] }

-- the table has the names of what a node holds
abbrev pub IsNamed : NameTable → Content → Type 0
IsNamed t (contents.Element e) = HasNames t e
IsNamed t (contents.Chars chars) = Unit {0}
