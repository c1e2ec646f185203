-- Changes of a document, and the change that undoes each.
use Rattle.std.specs.Prelude.{◌≡◌, ◌⊎◌, ℕ, ◌+◌, ◌≤◌, ◌<◌, List, insert, length, slice_get, true, false, Option, Some, None, if◌then◌else◌}
use Rattle.tree_rows.specs.Forest.{Forest, none, text, element, Document, count, deepest_of}
use Rattle.tree_rows.specs.Whole.{IsNamespace, AreNodes, times}
use Rattle.tree_rows.specs.declared.limits.TheConstants.{MAX_ATTRIBUTES, MAX_DEPTH, MAX_NODES}
use Rattle.tree_rows.specs.declared.name.Expanded.{Expanded}
use Rattle.tree_rows.specs.declared.row.Attribute.{Attribute}
use Rattle.tree_rows.specs.declared.row.Binding.{Binding}
use Rattle.tree_edits.specs.Changes.{has_name, set_in, unset_in, with_attributes}
use Rattle.tree_edits.specs.Edits.{found, has, is_root, replaced, renamed, with_children, with_chars}
use Rattle.tree_edits.specs.Tests.{is_element, is_text, attributes_of, bindings_of, depth_of, width_of}
use Rattle.tree_edits.specs.Sites.{site_of, node_of, first_number, name_of, chars_of, value_of}

-- a change of a document that has the nodes' numbers, those of new nodes too
pub data Change : Type 0 where
  -- a node that was taken out stands again before the child of this place, with all that was below it, each under its number
  put_back : (parent place : ℕ) (part : Forest) → Change
  -- a node is taken out, with all that is below it
  take_out : (key : ℕ) → Change
  -- an element has another name
  rename : (key : ℕ) (name : Expanded) → Change
  -- the attribute of a name, which stands at this place, has a value, or it is gone; where there was none, it stands there now
  write : (key : ℕ) (name : Expanded) (place : ℕ) (value : Option (List ℕ)) → Change
  -- a text has other characters
  reword : (key : ℕ) (chars : List ℕ) → Change

-- attributes where the one of the name has a value or is gone
abbrev pub written : Expanded → ℕ → Option (List ℕ) → List Attribute → List Attribute
written name place None attributes = unset_in name attributes
written name place (Some value) attributes =
    if has_name name attributes then set_in name value attributes else insert attributes place (record { name = name; value = value })

-- the document with a change made
abbrev pub changed : Document → Change → Document
changed d (put_back parent place part) = record d { forest = replaced parent (with_children place part) d.forest }
changed d (take_out key) = record d { forest = replaced key (λ node. none) d.forest }
changed d (rename key name) = renamed key name d
changed d (write key name place value) = record d { forest = replaced key (with_attributes (written name place value)) d.forest }
changed d (reword key chars) = record d { forest = replaced key (with_chars chars) d.forest }

-- the change that undoes a change of this document
abbrev pub inverse_of : Document → Change → Change
inverse_of d (put_back parent place part) = take_out (first_number part)
inverse_of d (take_out key) = let site = site_of key d.forest in put_back site.parent site.place (node_of key d.forest)
inverse_of d (rename key name) = rename key (name_of (node_of key d.forest))
inverse_of d (write key name place value) = write key name place (value_of name (attributes_of (found key 1 d.forest)))
inverse_of d (reword key chars) = reword key (chars_of (node_of key d.forest))

-- a node with all that is below it, and nothing beside it
abbrev pub IsOne : Forest → Type 0
IsOne none = ⊥
IsOne (text number chars next) = next ≡ none
IsOne (element number name bindings attributes children next) = next ≡ none

-- a part can be put back: its numbers were given out and are of no node, and it keeps the limits
pub record CanPutBack (d : Document) (parent place : ℕ) (part : Forest) : Type 0 where
  pub element : is_element (found parent 1 d.forest) ≡ true
  pub within : place ≤ width_of (found parent 1 d.forest)
  pub one : IsOne part
  pub nodes : AreNodes d.next_free part
  pub differ : (key : ℕ) → times key d.forest + times key part ≤ 1
  pub few : count d.forest + count part ≤ MAX_NODES
  pub shallow : deepest_of (depth_of (found parent 1 d.forest) + 1) part ≤ MAX_DEPTH

-- the attribute of this place has the name
abbrev pub IsAt : Expanded → ℕ → List Attribute → Type 0
IsAt name place attributes = (value : List ℕ) × (slice_get attributes place ≡ Some (record { name = name; value = value }))

-- no attribute has the name, and there is room for one at this place
pub record HasRoom (name : Expanded) (place : ℕ) (attributes : List Attribute) (bindings : List Binding) : Type 0 where
  pub lacks : has_name name attributes ≡ false
  pub within : place ≤ length attributes
  pub few : length attributes + length bindings < MAX_ATTRIBUTES

abbrev pub CanWrite : Expanded → ℕ → Option (List ℕ) → List Attribute → List Binding → Type 0
CanWrite name place None attributes bindings = IsAt name place attributes
CanWrite name place (Some value) attributes bindings = IsAt name place attributes ⊎ HasRoom name place attributes bindings

-- the change can be made of the document
abbrev pub Fits : Document → Change → Type 0
Fits d (put_back parent place part) = CanPutBack d parent place part
Fits d (take_out key) = (has key d.forest ≡ true) × (is_root key d.forest ≡ false)
Fits d (rename key name) = (is_element (found key 1 d.forest) ≡ true) × IsNamespace name.namespace
Fits d (write key name place value) =
    (is_element (found key 1 d.forest) ≡ true) × IsNamespace name.namespace
    × CanWrite name place value (attributes_of (found key 1 d.forest)) (bindings_of (found key 1 d.forest))
Fits d (reword key chars) = is_text (found key 1 d.forest) ≡ true
