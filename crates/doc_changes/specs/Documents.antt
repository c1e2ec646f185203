-- The document that nodes by number stand for, read off the nodes.
use Rattle.std.specs.Prelude.{ℕ, zero, suc, ◌+◌, List, [], ◌∷◌, length, map, Option, Some, None}
use Rattle.xs_names.specs.Names.{NameTable}
use Rattle.tree_rows.specs.Forest.{Forest, none, text, element, Document}
use Rattle.tree_rows.specs.declared.limits.TheConstants.{MAX_DEPTH}
use Rattle.doc_nodes.specs.Nodes.{Node, Nodes, node}
use Rattle.doc_nodes.specs.declared.content.Content.{Content}
use Rattle.doc_nodes.specs.declared.content.Content.TheVariants as contents
use Rattle.doc_changes.specs.Stands.{expanded_of, attribute_of, binding_of}

-- a node of this number which holds this, with what is below it and what comes next
abbrev pub with_content : NameTable → ℕ → Content → Forest → Forest → Forest
with_content t n (contents.Element e) children next = element n (expanded_of t e.name) (map (binding_of t) e.bindings) (map (attribute_of t) e.attributes) children next
with_content t n (contents.Chars chars) children next = text n chars next

-- where the number is of no node, nothing stands
abbrev pub with_node : NameTable → (List ℕ → Forest) → ℕ → Option Node → Forest → Forest
with_node t below n None next = next
with_node t below n (Some it) next = with_content t n it.content (below it.children) next

-- the siblings of these numbers, where the forest of their children is this
abbrev pub siblings_of : NameTable → Nodes → (List ℕ → Forest) → List ℕ → Forest
siblings_of t ns below [] = none
siblings_of t ns below (n ∷ more) = with_node t below n (node ns n) (siblings_of t ns below more)

-- the siblings of these numbers, and so many levels in all
unfoldable pub levels_of : NameTable → Nodes → ℕ → List ℕ → Forest
levels_of t ns zero numbers = none
levels_of t ns (suc levels) numbers = siblings_of t ns (levels_of t ns levels) numbers

-- the tree of the root, and the number that is given out next: a text may stand one level below the deepest element
unfoldable pub document_of : NameTable → Nodes → Document
document_of t ns = record { forest = levels_of t ns (MAX_DEPTH + 1) (1 ∷ []); next_free = length ns }
