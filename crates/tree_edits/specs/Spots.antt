-- Where an edit changes the rows of a tree.
use Rattle.std.specs.Prelude.{◌≡◌, ℕ, ◌+◌, ◌≤◌, ◌<◌, false, ◌||◌, nat_lt, slice_index_or, slice_set, List, [], ◌∷◌, ◌++◌, length, take, drop, reverse, Result, Ok}
use Rattle.tree_rows.specs.declared.limits.TheConstants.{MAX_DEPTH, MAX_NODES}
use Rattle.tree_rows.specs.Forest.{Forest, Document, count, deepest_of}
use Rattle.tree_rows.specs.Rows.{rows_of, siblings}
use Rattle.tag_names.specs.Scopes.{first_scope}
use Rattle.tree_edits.specs.Changes.{with_attributes}
use Rattle.tree_edits.specs.Edits.{put, put_within, insert_within, scope_in, reword, remove, found, replaced, with_children, renamed, change_element, after}
use Rattle.tree_edits.specs.Places.{scope_above}
use Rattle.tree_edits.specs.Refusals.{IsWhy}
use Rattle.tree_building.specs.Shape.{AreSound, deepest_row}
use Rattle.item_listing.specs.declared.item.Item.{Item}
use Rattle.tree_rows.specs.declared.name.Expanded.{Expanded}
use Rattle.tree_rows.specs.declared.row.Attribute.{Attribute}
use Rattle.tree_rows.specs.declared.row.Binding.{Binding}
use Rattle.tree_rows.specs.declared.row.Row.{Row}
use Rattle.tree_rows.specs.declared.row.Content.TheVariants as contents
use Rattle.tree_edits.specs.declared.places.Spot.{Spot}
use Rattle.tree_edits.specs.declared.places.Span.{Span}
use Rattle.tree_edits.specs.declared.edit.Edit.{Edit}
use Rattle.tree_edits.specs.declared.edit.EditError.{EditError}

-- the document of these rows
abbrev pub tree_of : List Row → ℕ → Document
tree_of rows next = record { forest = siblings rows 1; next_free = next }

-- the element of the block is put into the children of the node, by the node's depth
abbrev pub inserting : List Row → ℕ → ℕ → ℕ → List Item → ℕ → Result Document EditError
inserting rows next parent place its = insert_within (tree_of rows next) parent place (scope_in parent first_scope (siblings rows 1)) its

-- nothing can be changed at this place among the children of this node
abbrev pub CannotPut : List Row → ℕ → ℕ → EditError → Type 0
CannotPut rows parent place error = (change : ℕ → Result Document EditError) → IsWhy (put (siblings rows 1) parent place change) error

-- what is put before this place among the children of this node stands at the spot
pub record IsSpot (rows : List Row) (parent place : ℕ) (s : Spot) : Type 0 where
  pub within : s.place ≤ length rows
  pub shallow : s.depth ≤ MAX_DEPTH
  pub inside : s.parent < length rows
  pub scoped : (scope : List Binding) → scope_in parent scope (siblings rows 1) ≡ scope_above (s.depth + 1) scope (reverse (take (s.parent + 1) rows))
  pub puts : (change : ℕ → Result Document EditError) → put (siblings rows 1) parent place change ≡ change s.depth
  pub becomes : (new : Forest) → rows_of 1 (replaced parent (with_children place new) (siblings rows 1))
      ≡ take s.place rows ++ (rows_of (s.depth + 1) new ++ drop s.place rows)

-- these rows were put at the spot of this place, and the tree is sound
pub record Puts (old new : List Row) (next free parent place depth : ℕ) (added : List Row) : Type 0 where
  pub puts : put_within (tree_of old next) parent place (siblings added 1) depth ≡ Ok (tree_of new free)
  pub sound : AreSound new

-- the element of the block was put at the spot of this place, and the tree is sound
pub record Inserts (old new : List Row) (next free parent place depth : ℕ) (scope : List Binding) (its : List Item) : Type 0 where
  pub inserts : insert_within (tree_of old next) parent place scope its depth ≡ Ok (tree_of new free)
  pub sound : AreSound new

-- the row of a text alone
abbrev pub IsText : List ℕ → List Row → Type 0
IsText chars rows = rows ≡ record { number = 0; depth = 1; content = contents.Chars chars; bindings = []; attributes = [] } ∷ []

-- new rows fit below an element of this depth
pub record Fits (rows new : List Row) (next depth : ℕ) : Type 0 where
  pub few : (nat_lt MAX_NODES (length rows + length new) || nat_lt 4294967295 (next + length new)) ≡ false
  pub shallow : deepest_row depth new ≤ MAX_DEPTH

-- so many new nodes have room below an element of this depth, where the deepest element stands this deep among them
pub record HasRoom (rows : List Row) (next more depth deepest : ℕ) : Type 0 where
  pub few : (nat_lt MAX_NODES (length rows + more) || nat_lt 4294967295 (next + more)) ≡ false
  pub shallow : depth + deepest ≤ MAX_DEPTH

-- they have no room there
abbrev pub HasNoRoom : List Row → ℕ → ℕ → ℕ → ℕ → EditError → Type 0
HasNoRoom rows next more depth deepest error = (parent place : ℕ) (new : Forest) → count new ≡ more → deepest_of 1 new ≡ deepest
    → IsWhy (put_within (tree_of rows next) parent place new depth) error

-- the rows are sound, and those of the tree where the text has other characters
pub record Rewords (rows changed : List Row) (key : ℕ) (chars : List ℕ) : Type 0 where
  pub sound : AreSound changed
  pub gives : (next : ℕ) → reword (tree_of rows next) key chars (found key 1 (siblings rows 1)) ≡ Ok (tree_of changed next)

-- the row of this place is that of the text
pub record IsTextPlace (rows : List Row) (key place : ℕ) : Type 0 where
  pub within : place < length rows
  pub row : Row
  pub reads : row ≡ slice_index_or rows place row
  pub rewords : (changed : List Row) (chars : List ℕ) → changed ≡ slice_set rows place (record row { content = contents.Chars chars }) → Rewords rows changed key chars

abbrev pub CannotReword : List Row → ℕ → EditError → Type 0
CannotReword rows key error = (chars : List ℕ) (next : ℕ) → IsWhy (reword (tree_of rows next) key chars (found key 1 (siblings rows 1))) error

-- the rows are sound, and those of the tree where its element of this number has another name, or other attributes
pub record Renames (rows changed : List Row) (key : ℕ) (name : Expanded) : Type 0 where
  pub sound : AreSound changed
  pub gives : (next : ℕ) → renamed key name (tree_of rows next) ≡ tree_of changed next

pub record Reattributes (rows changed : List Row) (key : ℕ) (change : List Attribute → List Attribute) : Type 0 where
  pub sound : AreSound changed
  pub gives : (next : ℕ) → record (tree_of rows next) { forest = replaced key (with_attributes change) (siblings rows 1) } ≡ tree_of changed next

-- the row of this place is that of the element
pub record IsElementPlace (rows : List Row) (key place : ℕ) : Type 0 where
  pub within : place < length rows
  pub row : Row
  pub reads : row ≡ slice_index_or rows place row
  pub shallow : row.depth ≤ MAX_DEPTH
  pub scoped : (scope : List Binding) → scope_in key scope (siblings rows 1) ≡ scope_above (row.depth + 1) scope (reverse (take (place + 1) rows))
  pub changes : (change : List Binding → List Attribute → Result Document EditError) → change_element change (found key 1 (siblings rows 1)) ≡ change row.bindings row.attributes
  pub renames : (changed : List Row) (name : Expanded) → changed ≡ slice_set rows place (record row { content = contents.Element name }) → Renames rows changed key name
  pub reattributes : (changed : List Row) (change : List Attribute → List Attribute) → changed ≡ slice_set rows place (record row { attributes = change row.attributes })
      → Reattributes rows changed key change

abbrev pub CannotChange : List Row → ℕ → EditError → Type 0
CannotChange rows key error = (change : List Binding → List Attribute → Result Document EditError) → IsWhy (change_element change (found key 1 (siblings rows 1))) error

-- the rows are sound, and those of the tree after the edit
pub record Makes (rows changed : List Row) (edit : Edit) : Type 0 where
  pub sound : AreSound changed
  pub gives : (next : ℕ) → after (tree_of rows next) edit ≡ Ok (tree_of changed next)

abbrev pub CannotMake : List Row → Edit → EditError → Type 0
CannotMake rows edit error = (next : ℕ) → IsWhy (after (tree_of rows next) edit) error

-- the rows are sound, and those of the tree without the node
pub record Removes (rows changed : List Row) (key : ℕ) : Type 0 where
  pub sound : AreSound changed
  pub gives : (next : ℕ) → remove (tree_of rows next) key (found key 1 (siblings rows 1)) ≡ Ok (tree_of changed next)

-- so many rows from this place on are the node and all that is below it
pub record IsSpan (rows : List Row) (key : ℕ) (s : Span) : Type 0 where
  pub within : s.place + s.count ≤ length rows
  pub removes : (changed : List Row) → changed ≡ take s.place rows ++ drop (s.place + s.count) rows → Removes rows changed key

abbrev pub CannotRemove : List Row → ℕ → EditError → Type 0
CannotRemove rows key error = (next : ℕ) → IsWhy (remove (tree_of rows next) key (found key 1 (siblings rows 1))) error
