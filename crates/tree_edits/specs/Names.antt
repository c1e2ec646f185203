-- The names of elements and of start tags.
use Rattle.std.specs.Prelude.{List, [], ◌∷◌, ◌++◌}
use Rattle.tree_rows.specs.Forest.{Forest, none, text, element}
use Rattle.tag_names.specs.Tags.{named}
use Rattle.tag_names.specs.declared.named.Named.{Named}
use Rattle.tree_edits.specs.Blocks.{Placed}

-- what each element is named, with its bindings and attributes, in document order
abbrev pub element_names : Forest → List Named
element_names none = []
element_names (text number chars next) = element_names next
element_names (element number name bindings attributes children next) =
    record { name = name; bindings = bindings; attributes = attributes } ∷ (element_names children ++ element_names next)

-- what each start tag says of its element, in the scope that it stands in (Namespaces in XML 1.0, 6)
abbrev pub tag_names : List Placed → List Named
tag_names [] = []
tag_names (placed ∷ more) = named placed.scope placed.tag ∷ tag_names more
