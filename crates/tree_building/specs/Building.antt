-- Building a tree of a list of items, one item after another.
use Rattle.std.specs.Prelude.{ℕ, ◌+◌, List, [], ◌∷◌, ◌++◌, Bool, true, false, ◌==◌, ◌&&◌, length, Result, Ok, Err, Option, Some, None, if◌then◌else◌}
use Rattle.item_listing.specs.declared.item.Item.{Item}
use Rattle.item_listing.specs.declared.item.Item.TheVariants as items
use Rattle.tree_rows.specs.Forest.{Forest, none, Document}
use Rattle.tree_rows.specs.Rows.{siblings}
use Rattle.xs_names.specs.White as white
use Rattle.tree_rows.specs.declared.row.Binding.{Binding}
use Rattle.tree_rows.specs.declared.row.Row.{Row}
use Rattle.tree_rows.specs.declared.row.Content.TheVariants as contents
use Rattle.tag_names.specs.Scopes.{first_scope}
use Rattle.tag_names.specs.Tags.{named}
use Rattle.tag_names.specs.Faults.{name_fault}
use Rattle.tag_names.specs.declared.fault.NameReason.{NameReason}
use Rattle.tag_names.specs.declared.lines.AttributeLine.{AttributeLine}
use Rattle.tag_names.specs.declared.lines.Tag.{Tag}
use Rattle.tree_building.specs.Nest.{scope_in, opened, closes, closed}
use Rattle.tree_building.specs.Rules.{past, document_rules, block_rules}
use Rattle.tree_building.specs.declared.rules.Rules.{Rules}
use Rattle.tree_building.specs.declared.pending.Pending.{Pending}
use Rattle.tree_building.specs.declared.pending.Pending.TheVariants as pending
use Rattle.tree_building.specs.declared.building.Building.{Building}
use Rattle.tree_building.specs.declared.build.Built.{Built}
use Rattle.tree_building.specs.declared.fault.TreeFault.{TreeFault}
use Rattle.tree_building.specs.declared.fault.TreeReason.{TreeReason}
use Rattle.tree_building.specs.declared.fault.TreeReason.TheVariants as reasons

infixl 10 ◌>>=◌
abbrev pub ◌>>=◌ : {A B : Type 0} → Result A TreeFault → (A → Result B TreeFault) → Result B TreeFault
(Ok x) >>= f = f x
(Err e) >>= f = Err e

-- nothing is built yet, in this scope
abbrev pub nothing : Rules → List Binding → Building
nothing rules scope = record {
  rules = rules;
  rows = [];
  nest = record { outer = scope; elements = [] };
  pending = pending.Nothing;
  rooted = false;
  next = 1;
  taken = 0;
}

-- the item that comes next is refused
abbrev pub refused : {X : Type 0} → Building → TreeReason → Result X TreeFault
refused b reason = Err (record { item = b.taken; reason = reason })

-- the nodes of a text and of an element below what is open
abbrev pub text_row : Building → List ℕ → Row
text_row b chars =
    record { number = b.next; depth = length b.nest.elements + 1; content = contents.Chars chars; bindings = []; attributes = [] }

abbrev pub element_row : Building → Tag → Row
element_row b tag = let n = named (scope_in b.nest) tag in record {
  number = b.next;
  depth = length b.nest.elements + 1;
  content = contents.Element n.name;
  bindings = n.bindings;
  attributes = n.attributes;
}

-- with a node more, for what came last
abbrev pub with_row : Building → Row → Building
with_row b row = record b { rows = b.rows ++ row ∷ []; next = b.next + 1; pending = pending.Nothing }

-- with an element more, which is open
abbrev pub with_element : Building → List ℕ → Row → Building
with_element b name row = record (with_row b row) { nest = opened b.nest name row.bindings }

-- why the names of a start tag are refused, where they are judged
abbrev pub fault_of : Rules → List Binding → Tag → Option NameReason
fault_of rules scope tag = if rules.names then name_fault scope tag else None

-- a start tag whose names are judged opens an element; the fault names the item of the start
abbrev pub tag_by : Building → Tag → ℕ → Option NameReason → Result Building TreeFault
tag_by b tag item (Some reason) = Err (record { item = item; reason = reasons.Name reason })
tag_by b tag item None = Ok (with_element b tag.name (element_row b tag))

-- the start tag that came last gets no more attribute lines; characters that came last wait for more
abbrev pub tag_closed_by : Building → Pending → Result Building TreeFault
tag_closed_by b pending.Nothing = Ok b
tag_closed_by b (pending.Start tag item) = tag_by b tag item (fault_of b.rules (scope_in b.nest) tag)
tag_closed_by b (pending.Chars chars) = Ok b

abbrev pub tag_closed : Building → Result Building TreeFault
tag_closed b = tag_closed_by b b.pending

-- what came last becomes a node
abbrev pub settled_by : Building → Pending → Result Building TreeFault
settled_by b pending.Nothing = Ok b
settled_by b (pending.Start tag item) = tag_by b tag item (fault_of b.rules (scope_in b.nest) tag)
settled_by b (pending.Chars chars) = Ok (with_row b (text_row b chars))

abbrev pub settled : Building → Result Building TreeFault
settled b = settled_by b b.pending

abbrev pub counted : Building → Building
counted b = record b { taken = b.taken + 1 }

-- the start of an element
abbrev pub started : List ℕ → Building → Result Building TreeFault
started name b =
    if length b.nest.elements == 0 && b.rooted then refused b reasons.TwoRoots
    else (if past b.rules.levels (length b.nest.elements + 1) then refused b reasons.TooDeep
    else (if past b.rules.nodes b.next then refused b reasons.TooManyNodes
    else Ok (record (counted b) { pending = pending.Start (record { name = name; attributes = [] }) b.taken; rooted = true })))

-- an attribute line of the start tag that came last
abbrev pub lined : Building → Pending → AttributeLine → Result Building TreeFault
lined b pending.Nothing line = refused b reasons.NotHere
lined b (pending.Start tag item) line =
    Ok (record (counted b) { pending = pending.Start (record tag { attributes = tag.attributes ++ line ∷ [] }) item })
lined b (pending.Chars chars) line = refused b reasons.NotHere

abbrev pub is_empty : List ℕ → Bool
is_empty text = length text == 0

abbrev pub is_white : List ℕ → Bool
is_white text = white.is_white text

-- characters that begin a text: outside of the root they are white space, and not kept; no characters make no node
abbrev pub text_begun : List ℕ → Building → Result Building TreeFault
text_begun text b =
    if length b.nest.elements == 0 then (if is_white text then Ok (counted b) else refused b reasons.TextOutside)
    else (if is_empty text then Ok (counted b)
    else (if past b.rules.nodes b.next then refused b reasons.TooManyNodes
    else Ok (record (counted b) { pending = pending.Chars text })))

-- characters: neighbours make one text
abbrev pub text_by : List ℕ → Building → Pending → Result Building TreeFault
text_by text b pending.Nothing = text_begun text b
text_by text b (pending.Start tag item) = tag_closed_by b (pending.Start tag item) >>= text_begun text
text_by text b (pending.Chars chars) = Ok (record (counted b) { pending = pending.Chars (chars ++ text) })

-- the end of an element: its name is as the start has it
abbrev pub ended : List ℕ → Building → Result Building TreeFault
ended name b =
    if closes name b.nest.elements then Ok (record (counted b) { nest = closed b.nest }) else refused b reasons.EndMismatch

abbrev pub passed : Building → Result Building TreeFault
passed b = Ok (counted b)

-- one item
abbrev pub took : Building → Item → Result Building TreeFault
took b (items.Start name) = settled b >>= started name
took b (items.Attr name value) = lined b b.pending (record { name = name; value = value })
took b (items.Chars text) = text_by text b b.pending
took b (items.Close name) = settled b >>= ended name
took b items.Instruction = tag_closed b >>= passed
took b (items.Schema locations) = refused b reasons.NotHere
took b items.Document = refused b reasons.NotHere
took b items.Edits = refused b reasons.NotHere
took b items.End = refused b reasons.NotHere
took b items.Dot = refused b reasons.NotHere
took b (items.Command line) = refused b reasons.NotHere

-- the end of the items
abbrev pub finished : Building → Result Built TreeFault
finished b =
    if length b.nest.elements == 0 then (if b.rooted then Ok (record { rows = b.rows; next = b.next }) else refused b reasons.NoRoot)
    else refused b reasons.Unclosed

abbrev pub ended_all : Building → Result Built TreeFault
ended_all b = settled b >>= finished

-- after a fault it stays
abbrev pub after : Result Building TreeFault → Item → Result Building TreeFault
after (Ok b) item = took b item
after (Err fault) item = Err fault

abbrev pub after_all : Result Building TreeFault → List Item → Result Building TreeFault
after_all state [] = state
after_all state (item ∷ more) = after_all (after state item) more

-- what all items build, or the first reason why they are no tree
abbrev pub built : Rules → List Binding → List Item → Result Built TreeFault
built rules scope its = after_all (Ok (nothing rules scope)) its >>= ended_all

-- the tree of the items of a document section: its nodes are numbered from 1 in document order
abbrev pub document : Result Built TreeFault → Result Document TreeFault
document (Ok b) = Ok (record { forest = siblings b.rows 1; next_free = b.next })
document (Err fault) = Err fault

abbrev pub tree : List Item → Result Document TreeFault
tree its = document (built document_rules first_scope its)

-- the nodes that were built, and none where there is a fault
abbrev pub forest_of : Result Built TreeFault → Forest
forest_of (Ok b) = siblings b.rows 1
forest_of (Err fault) = none

-- the element that the items of a block are, in this scope, with numbers from 1
abbrev pub block : List Binding → List Item → Forest
block scope its = forest_of (built block_rules scope its)
