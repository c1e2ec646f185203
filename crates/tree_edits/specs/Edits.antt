-- Edits of a tree: what a tree is after an edit, or the least reason why the edit is refused.
use Rattle.std.specs.Prelude.{ℕ, ◌+◌, ◌-◌, List, [], ◌++◌, Bool, true, false, ◌==◌, ◌||◌, nat_lt, Option, Some, None, Result, Ok, Err, if◌then◌else◌}
use Rattle.tree_rows.specs.declared.limits.TheConstants.{MAX_DEPTH, MAX_NODES}
use Rattle.tree_rows.specs.Forest.{Forest, none, text, element, Document, count}
pub use Rattle.tree_rows.specs.Forest.{deepest_of}
use Rattle.tree_rows.specs.declared.name.Expanded.{Expanded}
use Rattle.tree_rows.specs.declared.row.Attribute.{Attribute}
use Rattle.tree_rows.specs.declared.row.Binding.{Binding}
use Rattle.item_listing.specs.declared.item.Item.{Item}
use Rattle.tag_names.specs.Resolving.{element_resolved, attribute_resolved}
use Rattle.tag_names.specs.Scopes.{first_scope}
use Rattle.tag_names.specs.declared.fault.NameReason.{NameReason}
use Rattle.tree_building.specs.Blocks.{one_element}
use Rattle.tree_building.specs.Building.{block}
use Rattle.tree_edits.specs.Blocks.{tags_in, judged, early, late}
use Rattle.tree_edits.specs.Changes.{with_name, has_name, set_in, unset_in, has_no_room, with_attributes}
use Rattle.tree_edits.specs.Refusals.{refusal_of}
use Rattle.tree_edits.specs.declared.edit.Edit.{Edit}
use Rattle.tree_edits.specs.declared.edit.Edit.TheVariants as edits
use Rattle.tree_edits.specs.declared.edit.EditError.{EditError}
use Rattle.tree_edits.specs.declared.edit.EditError.TheVariants.{UnknownNode, NotElement, NotText, RootFixed, BadIndex, NoSuchAttribute, TooManyNodes, TooDeep, TooManyAttributes}

-- how many siblings there are
abbrev pub width : Forest → ℕ
width none = 0
width (text number chars next) = 1 + width next
width (element number name bindings attributes children next) = 1 + width next

-- the nodes get the numbers from this one on, in document order
abbrev pub renumbered : ℕ → Forest → Forest
renumbered free none = none
renumbered free (text number chars next) = text free chars (renumbered (free + 1) next)
renumbered free (element number name bindings attributes children next) =
    element free name bindings attributes (renumbered (free + 1) children) (renumbered (free + 1 + count children) next)

-- the siblings of f, and then those of g
abbrev pub append : Forest → Forest → Forest
append none g = g
append (text number chars next) g = text number chars (append next g)
append (element number name bindings attributes children next) g = element number name bindings attributes children (append next g)

-- new siblings stand before the sibling of this place, counted from 0
abbrev pub insert_at : ℕ → Forest → Forest → Forest
insert_at place new none = new
insert_at place new (text number chars next) =
    if place == 0 then append new (text number chars next) else text number chars (insert_at (place - 1) new next)
insert_at place new (element number name bindings attributes children next) =
    if place == 0 then append new (element number name bindings attributes children next)
    else element number name bindings attributes children (insert_at (place - 1) new next)

-- a node has the number
abbrev pub has : ℕ → Forest → Bool
has key none = false
has key (text number chars next) = number == key || has key next
has key (element number name bindings attributes children next) = number == key || (has key children || has key next)

-- the scope inside the node of this number, where the siblings stand in this scope: its bindings, and those of the elements
-- around it, the innermost first (Namespaces in XML 1.0, 6.1)
abbrev pub scope_in : ℕ → List Binding → Forest → List Binding
scope_in key scope none = scope
scope_in key scope (text number chars next) = if number == key then scope else scope_in key scope next
scope_in key scope (element number name bindings attributes children next) =
    if number == key then bindings ++ scope
    else (if has key children then scope_in key (bindings ++ scope) children else scope_in key scope next)

-- a node apart from its next siblings, and its depth
pub record Found : Type 0 where
  pub depth : ℕ
  pub node : Forest

-- the node of this number, where the siblings have this depth
abbrev pub found : ℕ → ℕ → Forest → Option Found
found key depth none = None
found key depth (text number chars next) =
    if number == key then Some (record { depth = depth; node = text number chars none }) else found key depth next
found key depth (element number name bindings attributes children next) =
    if number == key then Some (record { depth = depth; node = element number name bindings attributes children none })
    else (if has key children then found key (depth + 1) children else found key depth next)

-- siblings stand in place of the node of this number
abbrev pub replaced : ℕ → (Forest → Forest) → Forest → Forest
replaced key change none = none
replaced key change (text number chars next) =
    if number == key then append (change (text number chars none)) next else text number chars (replaced key change next)
replaced key change (element number name bindings attributes children next) =
    if number == key then append (change (element number name bindings attributes children none)) next
    else (if has key children then element number name bindings attributes (replaced key change children) next
    else element number name bindings attributes children (replaced key change next))

-- an element with new children before the child of this place
abbrev pub with_children : ℕ → Forest → Forest → Forest
with_children place new none = none
with_children place new (text number chars next) = text number chars next
with_children place new (element number name bindings attributes children next) = element number name bindings attributes (insert_at place new children) next

-- a text with other characters
abbrev pub with_chars : List ℕ → Forest → Forest
with_chars new none = none
with_chars new (text number chars next) = text number new next
with_chars new (element number name bindings attributes children next) = element number name bindings attributes children next

-- the element of this number has another name
abbrev pub renamed : ℕ → Expanded → Document → Document
renamed key name d = record d { forest = replaced key (with_name name) d.forest }

-- its attribute of the name has this value, in its place; where there is none, there is one more, the last
abbrev pub attribute_set : ℕ → Expanded → List ℕ → Document → Document
attribute_set key name value d = record d { forest = replaced key (with_attributes (set_in name value)) d.forest }

-- its attribute of the name is gone
abbrev pub attribute_unset : ℕ → Expanded → Document → Document
attribute_unset key name d = record d { forest = replaced key (with_attributes (unset_in name)) d.forest }

-- the scope in which the names of an element stand that is in the tree: its own bindings come first
abbrev pub names_scope : Document → ℕ → List Binding
names_scope d key = scope_in key first_scope d.forest

-- the first node has the number
abbrev pub is_root : ℕ → Forest → Bool
is_root key none = false
is_root key (text number chars next) = number == key
is_root key (element number name bindings attributes children next) = number == key

-- so many more nodes would be too many, or one would get the number 4,294,967,295
abbrev pub too_many_more : Document → ℕ → Bool
too_many_more d more = nat_lt MAX_NODES (count d.forest + more) || nat_lt 4294967295 (d.next_free + more)

-- new nodes are put into the children of an element of this depth, within the limits; they get the numbers from the next
-- free one on, in document order
abbrev pub put_within : Document → ℕ → ℕ → Forest → ℕ → Result Document EditError
put_within d parent place new depth =
    if too_many_more d (count new) then Err TooManyNodes
    else (if nat_lt MAX_DEPTH (deepest_of (depth + 1) new) then Err TooDeep
    else Ok (record {
      forest = replaced parent (with_children place (renumbered d.next_free new)) d.forest;
      next_free = d.next_free + count new;
    }))

-- a change among the children of a node, by its depth
abbrev pub put_into : ℕ → (ℕ → Result Document EditError) → ℕ → Forest → Result Document EditError
put_into place change depth none = Err UnknownNode
put_into place change depth (text number chars next) = Err NotElement
put_into place change depth (element number name bindings attributes children next) = if nat_lt (width children) place then Err BadIndex else change depth

abbrev pub put_at : ℕ → (ℕ → Result Document EditError) → Option Found → Result Document EditError
put_at place change None = Err UnknownNode
put_at place change (Some it) = put_into place change it.depth it.node

-- a change at this place, counted from 0, among the children of the node of this number
abbrev pub put : Forest → ℕ → ℕ → (ℕ → Result Document EditError) → Result Document EditError
put forest parent place change = put_at place change (found parent 1 forest)

-- a refusal, or what comes where there is none
abbrev pub unless : Option EditError → Result Document EditError → Result Document EditError
unless None end = end
unless (Some error) end = Err error

-- what was refused, or a refusal that comes later
abbrev pub then_unless : Result Document EditError → Option EditError → Result Document EditError
then_unless (Ok d) refusal = unless refusal (Ok d)
then_unless (Err error) refusal = Err error

-- the element of a block is put into the children of an element of this depth, where the names of its tags resolve in the
-- scope of the element's content
abbrev pub insert_within : Document → ℕ → ℕ → List Binding → List Item → ℕ → Result Document EditError
insert_within d parent place scope its depth =
    unless (early (judged (tags_in scope [] its)))
    (then_unless (put_within d parent place (block scope its) depth) (late (judged (tags_in scope [] its))))

abbrev pub reword_at : Document → ℕ → List ℕ → Forest → Result Document EditError
reword_at d key chars none = Err UnknownNode
reword_at d key chars (text number old next) = Ok (record d { forest = replaced key (with_chars chars) d.forest })
reword_at d key chars (element number name bindings attributes children next) = Err NotText

-- the text of this number gets other characters
abbrev pub reword : Document → ℕ → List ℕ → Option Found → Result Document EditError
reword d key chars None = Err UnknownNode
reword d key chars (Some it) = reword_at d key chars it.node

-- the node of this number is taken away with all that is below it
abbrev pub remove : Document → ℕ → Option Found → Result Document EditError
remove d key None = Err UnknownNode
remove d key (Some it) =
    if is_root key d.forest then Err RootFixed else Ok (record d { forest = replaced key (λ node. none) d.forest })

-- a change of an element, by its bindings and attributes
abbrev pub change_at : (List Binding → List Attribute → Result Document EditError) → Forest → Result Document EditError
change_at change none = Err UnknownNode
change_at change (text number chars next) = Err NotElement
change_at change (element number name bindings attributes children next) = change bindings attributes

abbrev pub change_element : (List Binding → List Attribute → Result Document EditError) → Option Found → Result Document EditError
change_element change None = Err UnknownNode
change_element change (Some it) = change_at change it.node

-- a change by an expanded name, or what stands against the name
abbrev pub by_name : (Expanded → Result Document EditError) → Result Expanded NameReason → Result Document EditError
by_name change (Ok name) = change name
by_name change (Err reason) = Err (refusal_of reason)

-- the element of this number gets another name
abbrev pub rename : Document → ℕ → List ℕ → List Binding → List Attribute → Result Document EditError
rename d key name bindings attributes = by_name (λ own. Ok (renamed key own d)) (element_resolved (names_scope d key) name)

-- its attribute of the name gets a value
abbrev pub set_attribute : Document → ℕ → List ℕ → List ℕ → List Binding → List Attribute → Result Document EditError
set_attribute d key name value bindings attributes =
    by_name (λ own. if has_no_room own bindings attributes then Err TooManyAttributes else Ok (attribute_set key own value d))
    (attribute_resolved (names_scope d key) name)

-- its attribute of the name goes
abbrev pub unset_attribute : Document → ℕ → List ℕ → List Binding → List Attribute → Result Document EditError
unset_attribute d key name bindings attributes =
    by_name (λ own. if has_name own attributes then Ok (attribute_unset key own d) else Err NoSuchAttribute) (attribute_resolved (names_scope d key) name)

-- the document after an edit, or the least refusal by its number, step by step: the same as what the edit's tests say
abbrev pub after : Document → Edit → Result Document EditError
after d (edits.Insert parent place its) =
    put d.forest parent place (insert_within d parent place (scope_in parent first_scope d.forest) its)
after d (edits.AddText parent place chars) = put d.forest parent place (put_within d parent place (text 0 chars none))
after d (edits.SetText key chars) = reword d key chars (found key 1 d.forest)
after d (edits.Remove key) = remove d key (found key 1 d.forest)
after d (edits.Rename key name) = change_element (rename d key name) (found key 1 d.forest)
after d (edits.SetAttr key name value) = change_element (set_attribute d key name value) (found key 1 d.forest)
after d (edits.UnsetAttr key name) = change_element (unset_attribute d key name) (found key 1 d.forest)

-- a block is one element
abbrev pub can_be_made : Edit → Bool
can_be_made (edits.Insert parent place its) = one_element its
can_be_made (edits.AddText parent place chars) = true
can_be_made (edits.SetText key chars) = true
can_be_made (edits.Remove key) = true
can_be_made (edits.Rename key name) = true
can_be_made (edits.SetAttr key name value) = true
can_be_made (edits.UnsetAttr key name) = true
