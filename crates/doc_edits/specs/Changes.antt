-- Changes of a document that nothing refuses.
use Rattle.std.specs.Prelude.{◌≡◌, ◌≢◌, ℕ, ◌<◌, length, true, Some, None, Ok}
use Rattle.xs_names.specs.Names.{NameTable}
use Rattle.tree_rows.specs.Forest.{Forest, none, text, Document}
use Rattle.tree_rows.specs.declared.row.NodeKind.TheVariants as kinds
use Rattle.tree_edits.specs.Edits.{renamed, attribute_set, attribute_unset}
use Rattle.tree_edits.specs.Tests.{with_nodes, made, edited, new_name, attribute_named}
use Rattle.tree_edits.specs.Refusals.{IsWhy}
use Rattle.tree_edits.specs.declared.edit.Edit.{Edit}
use Rattle.tree_edits.specs.declared.edit.Edit.TheVariants as edits
use Rattle.tree_edits.specs.declared.edit.EditError.{EditError}
use Rattle.tree_edits.specs.declared.edit.EditError.TheVariants.{Memory}
use Rattle.doc_nodes.specs.Nodes.{Node, Nodes, IsNode, IsChildAt, Holds}
use Rattle.doc_nodes.specs.declared.content.Content.TheVariants as contents
use Rattle.doc_nodes.specs.declared.content.Element.{Element}
use Rattle.doc_changes.specs.Parts.{IsOver, Prunes}
use Rattle.doc_changes.specs.Stands.{StandsFor, expanded_of}
use Rattle.doc_changes.specs.Held.{kind_at, parent_at, attributes_at, has_number, set_number, unset_number, HasRoom}
use Rattle.doc_changes.specs.Fits.{Fits}
use Rattle.doc_changes.specs.Planted.{Plants}
use Rattle.plain_tree.specs.Found.{HasNames}
use Rattle.plain_tree.specs.Names.{table_with}
use Rattle.doc_edits.specs.declared.change.Change.{Change}
use Rattle.doc_edits.specs.declared.change.Change.TheVariants as changes

-- the document with a change made, where names go by the numbers of a table
abbrev pub changed : NameTable → Document → Change → Document
changed t d (changes.Insert parent index part) = with_nodes d parent index part.forest
changed t d (changes.AddText parent index chars) = made d (edits.AddText parent index chars)
changed t d (changes.SetText key chars) = made d (edits.SetText key chars)
changed t d (changes.Remove key) = made d (edits.Remove key)
changed t d (changes.Rename key name) = renamed key (expanded_of t name) d
changed t d (changes.SetAttr key name value) = attribute_set key (expanded_of t name) value d
changed t d (changes.UnsetAttr key name) = attribute_unset key (expanded_of t name) d

-- the nodes of a document are such that the change can be made, and the table has its names
abbrev pub CanMake : NameTable → Nodes → Document → Change → Type 0
CanMake t ns d (changes.Insert parent index part) = Fits d parent index part.forest × HasNames t part.forest
CanMake t ns d (changes.AddText parent index chars) = Fits d parent index (text 0 chars none)
CanMake t ns d (changes.SetText key chars) = kind_at ns key ≡ Some kinds.Chars
CanMake t ns d (changes.Remove key) = parent_at ns key ≢ None
CanMake t ns d (changes.Rename key name) = (kind_at ns key ≡ Some kinds.Element) × (name < length t.names)
CanMake t ns d (changes.SetAttr key name value) = (kind_at ns key ≡ Some kinds.Element) × HasRoom ns key name × (name < length t.names)
CanMake t ns d (changes.UnsetAttr key name) = has_number name (attributes_at ns key) ≡ true

-- what a made change is by the nodes: a part or a text was planted, a node was pruned with all below it, or one holds something else
abbrev pub IsMade : NameTable → Nodes → Nodes → Change → Type 0
IsMade t old new (changes.Insert parent index part) = Plants t old new parent index part.forest
IsMade t old new (changes.AddText parent index chars) = Plants t old new parent index (text 0 chars none)
IsMade t old new (changes.SetText key chars) = Holds old new key (contents.Chars chars)
IsMade t old new (changes.Remove key) = (below : Forest) → IsOver t old key below → (p place : ℕ) → IsChildAt old p place key → Prunes old new p place key below
IsMade t old new (changes.Rename key name) =
    (it : Node) (e : Element) → IsNode old key it → it.content ≡ contents.Element e → Holds old new key (contents.Element (record e { name = name }))
IsMade t old new (changes.SetAttr key name value) =
    (it : Node) (e : Element) → IsNode old key it → it.content ≡ contents.Element e → Holds old new key (contents.Element (record e { attributes = set_number name value e.attributes }))
IsMade t old new (changes.UnsetAttr key name) =
    (it : Node) (e : Element) → IsNode old key it → it.content ≡ contents.Element e → Holds old new key (contents.Element (record e { attributes = unset_number name e.attributes }))

-- the change is of the edit's kind, of the same nodes, with its characters
abbrev pub IsOf : Edit → Change → Type 0
IsOf (edits.Insert parent index its) change = (part : Document) × (change ≡ changes.Insert parent index part)
IsOf (edits.AddText parent index chars) change = change ≡ changes.AddText parent index chars
IsOf (edits.SetText key chars) change = change ≡ changes.SetText key chars
IsOf (edits.Remove key) change = change ≡ changes.Remove key
IsOf (edits.Rename key name) change = (number : ℕ) × (change ≡ changes.Rename key number)
IsOf (edits.SetAttr key name value) change = (number : ℕ) × (change ≡ changes.SetAttr key number value)
IsOf (edits.UnsetAttr key name) change = (number : ℕ) × (change ≡ changes.UnsetAttr key number)

-- a name of the change is the one that the edit resolves to
abbrev pub IsCalled : NameTable → Document → Edit → Change → Type 0
IsCalled t d (edits.Insert parent index its) change = Unit {0}
IsCalled t d (edits.AddText parent index chars) change = Unit {0}
IsCalled t d (edits.SetText key chars) change = Unit {0}
IsCalled t d (edits.Remove key) change = Unit {0}
IsCalled t d (edits.Rename key name) change = (number : ℕ) → change ≡ changes.Rename key number → expanded_of t number ≡ new_name d key name
IsCalled t d (edits.SetAttr key name value) change = (number : ℕ) → change ≡ changes.SetAttr key number value → expanded_of t number ≡ attribute_named d key name
IsCalled t d (edits.UnsetAttr key name) change = (number : ℕ) → change ≡ changes.UnsetAttr key number → expanded_of t number ≡ attribute_named d key name

-- no test of the edit stands, and the change is the edit's: it makes of the document what the edit makes of it; the table of before has
-- become one with the names that the edit brings
pub record IsPrepared (t u : NameTable) (ns : Nodes) (d : Document) (edit : Edit) (change : Change) : Type 0 where
  pub makes : edited d edit ≡ Ok (changed u d change)
  pub can : CanMake u ns d change
  pub names : u ≡ table_with t d edit
  pub is_of : IsOf edit change
  pub called : IsCalled u d edit change

-- memory is wanting, or the refusal is that of the first of the edit's tests that stands, and no name was added
pub record IsRefused (t u : NameTable) (ns : Nodes) (edit : Edit) (error : EditError) : Type 0 where
  pub why : (d : Document) → StandsFor t ns d → IsWhy (edited d edit) error
  pub same : error ≢ Memory → u ≡ t
