-- What single tests of an edit find.
use Rattle.std.specs.Prelude.{◌≡◌, ◌≢◌, ℕ, ◌+◌, ◌<◌, ◌≤◌, List, length, true, false, Option, Some, None, Result, Ok, Err}
use Rattle.std.specs.List.{list_any}
use Rattle.xs_names.specs.Names.{NameTable}
use Rattle.tree_rows.specs.Forest.{Forest, Document, count, deepest_of}
use Rattle.tree_rows.specs.Naming.{same_name}
use Rattle.tree_rows.specs.declared.limits.TheConstants.{MAX_DEPTH}
use Rattle.tree_rows.specs.declared.name.Expanded.{Expanded}
use Rattle.tree_rows.specs.declared.row.Attribute.{Attribute}
use Rattle.tree_rows.specs.declared.row.Binding.{Binding}
use Rattle.item_listing.specs.declared.item.Item.{Item}
use Rattle.tag_names.specs.Scopes.{first_scope}
use Rattle.tag_names.specs.declared.fault.NameReason.{NameReason}
use Rattle.tree_building.specs.Building.{block}
use Rattle.tree_edits.specs.Edits.{found, scope_in, put, put_within, change_element, too_many_more}
use Rattle.tree_edits.specs.Tests.{is_element, width_of, depth_of, with_nodes, edited, is_full, has_attribute}
use Rattle.tree_edits.specs.Refusals.{refusal_of}
use Rattle.tree_edits.specs.declared.edit.Edit.TheVariants as edits
use Rattle.tree_edits.specs.declared.edit.EditError.{EditError}
use Rattle.tree_edits.specs.declared.edit.EditError.TheVariants.{Memory}
use Rattle.doc_nodes.specs.Nodes.{Nodes}
use Rattle.doc_nodes.specs.declared.content.NameAttribute.{NameAttribute}
use Rattle.doc_changes.specs.Stands.{expanded_of}
use Rattle.doc_changes.specs.Held.{attributes_at, has_number}
use Rattle.doc_changes.specs.Held as nodes
use Rattle.doc_changes.specs.Fits.{Fits}
use Rattle.plain_tree.specs.Table.{with_expanded}

-- each change of an element of this number is refused so
pub record IsNoElement (d : Document) (key : ℕ) (error : EditError) : Type 0 where
  pub changes : (change : List Binding → List Attribute → Result Document EditError) → change_element change (found key 1 d.forest) ≡ Err error
  pub puts : (place : ℕ) (change : ℕ → Result Document EditError) → put d.forest key place change ≡ Err error

-- an element has this place among its children, or one behind them
pub record HasPlace (d : Document) (parent place : ℕ) : Type 0 where
  pub element : is_element (found parent 1 d.forest) ≡ true
  pub within : place ≤ width_of (found parent 1 d.forest)
  pub puts : (change : ℕ → Result Document EditError) → put d.forest parent place change ≡ change (depth_of (found parent 1 d.forest))

-- so many new nodes have room below an element, where the deepest element stands this deep among them
pub record HasRoom (d : Document) (parent more deepest : ℕ) : Type 0 where
  pub few : too_many_more d more ≡ false
  pub shallow : depth_of (found parent 1 d.forest) + deepest ≤ MAX_DEPTH

-- these new nodes have room below an element
pub record HasRoomFor (d : Document) (parent : ℕ) (new : Forest) : Type 0 where
  pub few : too_many_more d (count new) ≡ false
  pub shallow : deepest_of (depth_of (found parent 1 d.forest) + 1) new ≤ MAX_DEPTH

-- they have no room there
abbrev pub HasNoRoom : Document → ℕ → ℕ → ℕ → EditError → Type 0
HasNoRoom d parent more deepest error = (place : ℕ) (new : Forest) → count new ≡ more → deepest_of 1 new ≡ deepest
    → put_within d parent place new (depth_of (found parent 1 d.forest)) ≡ Err error

-- memory is wanting, or a name is refused so
abbrev pub IsReason : Result Expanded NameReason → EditError → Type 0
IsReason resolved error = error ≢ Memory → (reason : NameReason) × (resolved ≡ Err reason) × (error ≡ refusal_of reason)

-- the tree is what a block puts before the child of this place, and it can be put there
pub record IsPart (d : Document) (parent place : ℕ) (its : List Item) (part : Document) : Type 0 where
  pub makes : edited d (edits.Insert parent place its) ≡ Ok (with_nodes d parent place part.forest)
  pub fits : Fits d parent place part.forest
  pub is : part.forest ≡ block (scope_in parent first_scope d.forest) its

-- the number of the name that one of these attributes has, none where none has it
abbrev pub IsAmong : NameTable → List NameAttribute → Expanded → Option ℕ → Type 0
IsAmong t attributes name None = list_any (λ a. same_name (expanded_of t a.name) name) attributes ≡ false
IsAmong t attributes name (Some number) = (has_number number attributes ≡ true) × (same_name (expanded_of t number) name ≡ true) × (number < length t.names)

-- the number of a name that an attribute of the element has, none where no attribute has it
abbrev pub IsThere : NameTable → Nodes → Document → ℕ → Expanded → Option ℕ → Type 0
IsThere t ns d key own None = has_attribute d key own ≡ false
IsThere t ns d key own (Some name) = (has_attribute d key own ≡ true) × (has_number name (attributes_at ns key) ≡ true) × (expanded_of t name ≡ own) × (name < length t.names)

-- the attribute of this name may be set, and the name has this number in the table that it was put into
pub record IsSettable (t u : NameTable) (ns : Nodes) (d : Document) (key : ℕ) (own : Expanded) (name : ℕ) : Type 0 where
  pub free : is_full d key own ≡ false
  pub room : nodes.HasRoom ns key name
  pub called : expanded_of u name ≡ own
  pub within : name < length u.names
  pub names : u ≡ with_expanded t own
