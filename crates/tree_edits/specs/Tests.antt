-- The tests that an edit must pass, in the order of the numbers of their refusals.
use Rattle.std.specs.Prelude.{ℕ, ◌+◌, List, [], ◌∷◌, Bool, true, false, not, nat_lt, Option, Some, None, Result, Ok, Err, if◌then◌else◌}
use Rattle.std.specs.List.{list_any}
use Rattle.tree_rows.specs.declared.limits.TheConstants.{MAX_DEPTH}
use Rattle.tree_rows.specs.Forest.{Forest, none, text, element, Document, count, deepest_of}
use Rattle.tree_rows.specs.declared.row.Attribute.{Attribute}
use Rattle.tree_rows.specs.declared.row.Binding.{Binding}
use Rattle.item_listing.specs.declared.item.Item.{Item}
use Rattle.tag_names.specs.Faults.{is_no_qname, is_unbound, is_xmlns}
use Rattle.tag_names.specs.Resolving.{binds}
use Rattle.tag_names.specs.Scopes.{first_scope}
use Rattle.tag_names.specs.Tags.{prefix_of, element_name, attribute_name}
use Rattle.tree_building.specs.Building.{block}
use Rattle.tree_rows.specs.declared.name.Expanded.{Expanded}
use Rattle.tree_edits.specs.Blocks.{Placed, tags_in, has_bad_name, has_unbound, uses_reserved, has_too_many, has_double}
use Rattle.tree_edits.specs.Changes.{has_name, has_no_room}
use Rattle.tree_edits.specs.Edits.{Found, found, width, scope_in, replaced, with_children, with_chars, renumbered, renamed, attribute_set, attribute_unset, names_scope, too_many_more, is_root}
use Rattle.tree_edits.specs.declared.edit.Edit.{Edit}
use Rattle.tree_edits.specs.declared.edit.Edit.TheVariants as edits
use Rattle.tree_edits.specs.declared.edit.EditError.{EditError}
use Rattle.tree_edits.specs.declared.edit.EditError.TheVariants.{UnknownNode, NotElement, NotText, RootFixed, BadIndex, BadName, UnboundPrefix, ReservedName, NoSuchAttribute, TooManyNodes, TooDeep, TooManyAttributes, DoubleAttribute}

-- a test, and the refusal where it stands
pub record Test : Type 0 where
  pub stands : Bool
  pub refusal : EditError

abbrev pub test : Bool → EditError → Test
test stands refusal = record { stands = stands; refusal = refusal }

abbrev pub first_refusal : List Test → Option EditError
first_refusal [] = None
first_refusal (t ∷ more) = if t.stands then Some t.refusal else first_refusal more

-- there is no such node, or it is a text, or an element
abbrev pub no_node : Forest → Bool
no_node none = true
no_node (text number chars next) = false
no_node (element number name bindings attributes children next) = false

abbrev pub is_missing : Option Found → Bool
is_missing None = true
is_missing (Some it) = no_node it.node

abbrev pub text_node : Forest → Bool
text_node none = false
text_node (text number chars next) = true
text_node (element number name bindings attributes children next) = false

abbrev pub element_node : Forest → Bool
element_node none = false
element_node (text number chars next) = false
element_node (element number name bindings attributes children next) = true

abbrev pub is_text : Option Found → Bool
is_text None = false
is_text (Some it) = text_node it.node

abbrev pub is_element : Option Found → Bool
is_element None = false
is_element (Some it) = element_node it.node

-- how many children the node has, and its depth
abbrev pub node_width : Forest → ℕ
node_width none = 0
node_width (text number chars next) = 0
node_width (element number name bindings attributes children next) = width children

abbrev pub width_of : Option Found → ℕ
width_of None = 0
width_of (Some it) = node_width it.node

abbrev pub depth_of : Option Found → ℕ
depth_of None = 0
depth_of (Some it) = it.depth

-- its attributes and bindings
abbrev pub node_attributes : Forest → List Attribute
node_attributes none = []
node_attributes (text number chars next) = []
node_attributes (element number name bindings attributes children next) = attributes

abbrev pub attributes_of : Option Found → List Attribute
attributes_of None = []
attributes_of (Some it) = node_attributes it.node

abbrev pub node_bindings : Forest → List Binding
node_bindings none = []
node_bindings (text number chars next) = []
node_bindings (element number name bindings attributes children next) = bindings

abbrev pub bindings_of : Option Found → List Binding
bindings_of None = []
bindings_of (Some it) = node_bindings it.node

-- new nodes are put among the children of a node
abbrev pub put_tests : Document → ℕ → ℕ → List Test → List Test
put_tests d parent place more =
    test (is_missing (found parent 1 d.forest)) UnknownNode
    ∷ test (is_text (found parent 1 d.forest)) NotElement
    ∷ test (nat_lt (width_of (found parent 1 d.forest)) place) BadIndex
    ∷ more

-- of the names of tags
abbrev pub name_tests : List Placed → List Test → List Test
name_tests tags more =
    test (list_any has_bad_name tags) BadName
    ∷ test (list_any has_unbound tags) UnboundPrefix
    ∷ test (list_any uses_reserved tags) ReservedName
    ∷ more

-- of new nodes below a node
abbrev pub size_tests : Document → ℕ → Forest → List Test → List Test
size_tests d parent new more =
    test (too_many_more d (count new)) TooManyNodes
    ∷ test (nat_lt MAX_DEPTH (deepest_of (depth_of (found parent 1 d.forest) + 1) new)) TooDeep
    ∷ more

abbrev pub attribute_tests : List Placed → List Test
attribute_tests tags = test (list_any has_too_many tags) TooManyAttributes ∷ test (list_any has_double tags) DoubleAttribute ∷ []

-- the start tags of a block that is put into a node, each with the scope it stands in
abbrev pub tags_below : Document → ℕ → List Item → List Placed
tags_below d parent its = tags_in (scope_in parent first_scope d.forest) [] its

-- an element is changed
abbrev pub element_tests : Document → ℕ → List Test → List Test
element_tests d key more = test (is_missing (found key 1 d.forest)) UnknownNode ∷ test (is_text (found key 1 d.forest)) NotElement ∷ more

-- of the name of an element, or of an attribute, in a scope
abbrev pub qname_tests : List Binding → List ℕ → Bool → List Test → List Test
qname_tests scope name reserved more =
    test (is_no_qname name) BadName ∷ test (is_unbound scope (prefix_of name)) UnboundPrefix ∷ test reserved ReservedName ∷ more

-- the names that an edit of an element gives
abbrev pub new_name : Document → ℕ → List ℕ → Expanded
new_name d key name = element_name (names_scope d key) name

abbrev pub attribute_named : Document → ℕ → List ℕ → Expanded
attribute_named d key name = attribute_name (names_scope d key) name

-- the element has no room for the attribute, or has it
abbrev pub is_full : Document → ℕ → Expanded → Bool
is_full d key name = has_no_room name (bindings_of (found key 1 d.forest)) (attributes_of (found key 1 d.forest))

abbrev pub has_attribute : Document → ℕ → Expanded → Bool
has_attribute d key name = has_name name (attributes_of (found key 1 d.forest))

abbrev pub tests_of : Document → Edit → List Test
tests_of d (edits.Insert parent place its) =
    put_tests d parent place (name_tests (tags_below d parent its)
    (size_tests d parent (block (scope_in parent first_scope d.forest) its) (attribute_tests (tags_below d parent its))))
tests_of d (edits.AddText parent place chars) = put_tests d parent place (size_tests d parent (text 0 chars none) [])
tests_of d (edits.SetText key chars) =
    test (is_missing (found key 1 d.forest)) UnknownNode ∷ test (is_element (found key 1 d.forest)) NotText ∷ []
tests_of d (edits.Remove key) =
    test (is_missing (found key 1 d.forest)) UnknownNode ∷ test (is_root key d.forest) RootFixed ∷ []
tests_of d (edits.Rename key name) = element_tests d key (qname_tests (names_scope d key) name (is_xmlns (prefix_of name)) [])
tests_of d (edits.SetAttr key name value) =
    element_tests d key (qname_tests (names_scope d key) name (binds name)
    (test (is_full d key (attribute_named d key name)) TooManyAttributes ∷ []))
tests_of d (edits.UnsetAttr key name) =
    element_tests d key (qname_tests (names_scope d key) name (binds name)
    (test (not (has_attribute d key (attribute_named d key name))) NoSuchAttribute ∷ []))

-- with new nodes before the child of this place; they get the numbers from the next free one on, in document order
abbrev pub with_nodes : Document → ℕ → ℕ → Forest → Document
with_nodes d parent place new = record {
  forest = replaced parent (with_children place (renumbered d.next_free new)) d.forest;
  next_free = d.next_free + count new;
}

-- the document with the edit made
abbrev pub made : Document → Edit → Document
made d (edits.Insert parent place its) = with_nodes d parent place (block (scope_in parent first_scope d.forest) its)
made d (edits.AddText parent place chars) = with_nodes d parent place (text 0 chars none)
made d (edits.SetText key chars) = record d { forest = replaced key (with_chars chars) d.forest }
made d (edits.Remove key) = record d { forest = replaced key (λ node. none) d.forest }
made d (edits.Rename key name) = renamed key (new_name d key name) d
made d (edits.SetAttr key name value) = attribute_set key (attribute_named d key name) value d
made d (edits.UnsetAttr key name) = attribute_unset key (attribute_named d key name) d

abbrev pub unless_refused : Option EditError → Document → Result Document EditError
unless_refused None d = Ok d
unless_refused (Some error) d = Err error

-- the document after an edit, or the first refusal of its tests
abbrev pub edited : Document → Edit → Result Document EditError
edited d edit = unless_refused (first_refusal (tests_of d edit)) (made d edit)
