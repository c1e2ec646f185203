-- The elements of a schema document, each with what it is.
use Rattle.std.specs.Prelude.{ℕ, List, [], ◌∷◌, ◌++◌}
use Rattle.tree_rows.specs.Forest.{Forest, none, text, element}
use Rattle.tree_rows.specs.declared.row.Attribute.{Attribute}
use Rattle.tree_rows.specs.declared.row.Binding.{Binding}
use Rattle.schema_values.specs.GrammarNames.{tag_of}
use Rattle.schema_values.specs.Places.{kind_below}
use Rattle.schema_values.specs.declared.grammar_kinds.Kind.{Kind}

-- an element: its number, what it is, the nearest element above that has bindings, its own bindings, all in scope, its
-- attributes, and what is below it
pub record Construct : Type 0 where
  pub item : ℕ
  pub kind : Kind
  pub above : ℕ
  pub bindings : List Binding
  pub scope : List Binding
  pub attributes : List Attribute
  pub children : Forest

-- the nearest element with bindings: the one of this number where it has some, else the one above it
abbrev pub nearest : ℕ → ℕ → List Binding → ℕ
nearest above number [] = above
nearest above number (binding ∷ bindings) = number

-- the elements of these siblings and below them in document order, where the siblings stand in an element of this kind, the
-- nearest element above with bindings has this number, and these bindings are in scope there
abbrev pub constructs : Kind → ℕ → List Binding → Forest → List Construct
constructs parent above scope none = []
constructs parent above scope (text number chars next) = constructs parent above scope next
constructs parent above scope (element number name bindings attributes children next) =
    record {
      item = number;
      kind = kind_below parent (tag_of name);
      above = above;
      bindings = bindings;
      scope = bindings ++ scope;
      attributes = attributes;
      children = children;
    }
    ∷ (constructs (kind_below parent (tag_of name)) (nearest above number bindings) (bindings ++ scope) children
    ++ constructs parent above scope next)
