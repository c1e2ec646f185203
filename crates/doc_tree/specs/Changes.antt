-- Changes of a document by the numbers of nodes and names.
use Rattle.std.specs.Prelude.{◌≡◌, ℕ, ◌<◌, List, [], ◌∷◌, ◌==◌, insert, length, Option, Some, None, if◌then◌else◌}
use Rattle.xs_names.specs.Names.{NameTable}
use Rattle.tree_rows.specs.Forest.{Forest}
use Rattle.doc_nodes.specs.Nodes.{Node, Nodes, IsNode, IsChildAt, Holds}
use Rattle.doc_nodes.specs.declared.content.Content.TheVariants as contents
use Rattle.doc_nodes.specs.declared.content.Element.{Element}
use Rattle.doc_nodes.specs.declared.content.NameAttribute.{NameAttribute}
use Rattle.doc_changes.specs.Held.{has_number, set_number, unset_number}
use Rattle.doc_changes.specs.Parts.{IsOver, Prunes}
use Rattle.doc_changes.specs.Stands.{expanded_of}
use Rattle.tree_edits.specs.Inverses.{put_back, take_out, rename, write, reword}
use Rattle.tree_edits.specs.Inverses as law
use Rattle.doc_tree.specs.Parts.{IsPart, Grafts}
use Rattle.doc_tree.specs.declared.change.Change.{Change}
use Rattle.doc_tree.specs.declared.change.Change.TheVariants as changes

-- the change is this one of a document, where names go by the numbers of a table
abbrev pub Means : NameTable → Change → law.Change → Type 0
Means t (changes.PutBack p k part) (put_back parent place f) = (p ≡ parent) × (k ≡ place) × IsPart t part f
Means t (changes.Take node) (take_out key) = node ≡ key
Means t (changes.Name node n) (rename key name) = (node ≡ key) × (n < length t.names) × (expanded_of t n ≡ name)
Means t (changes.Attr node n k v) (write key name place value) = (node ≡ key) × (n < length t.names) × (expanded_of t n ≡ name) × (k ≡ place) × (v ≡ value)
Means t (changes.Chars node text) (reword key chars) = (node ≡ key) × (text ≡ chars)
Means t change other = ⊥

-- how many nodes a change puts back
abbrev pub put_count : Change → ℕ
put_count (changes.PutBack p k part) = length part
put_count (changes.Take node) = 0
put_count (changes.Name node name) = 0
put_count (changes.Attr node name place value) = 0
put_count (changes.Chars node text) = 0

-- the value of the attribute of this name
abbrev pub number_value : ℕ → List NameAttribute → Option (List ℕ)
number_value name [] = None
number_value name (a ∷ more) = if a.name == name then Some a.value else number_value name more

-- attributes where the one of the name has a value or is gone
abbrev pub written_number : ℕ → ℕ → Option (List ℕ) → List NameAttribute → List NameAttribute
written_number name place None attributes = unset_number name attributes
written_number name place (Some value) attributes =
    if has_number name attributes then set_number name value attributes else insert attributes place (record { name = name; value = value })

-- what a made change is by the nodes: a part was grafted, a node was pruned with all below it, or one holds something else
abbrev pub IsMade : NameTable → Nodes → Nodes → Change → law.Change → Type 0
IsMade t old new (changes.PutBack parent index part) (put_back p place f) = Grafts t old new parent index f
IsMade t old new (changes.PutBack parent index part) other = ⊥
IsMade t old new (changes.Take key) other = (below : Forest) → IsOver t old key below → (p place : ℕ) → IsChildAt old p place key → Prunes old new p place key below
IsMade t old new (changes.Name key name) other =
    (it : Node) (e : Element) → IsNode old key it → it.content ≡ contents.Element e → Holds old new key (contents.Element (record e { name = name }))
IsMade t old new (changes.Attr key name place value) other =
    (it : Node) (e : Element) → IsNode old key it → it.content ≡ contents.Element e → Holds old new key (contents.Element (record e { attributes = written_number name place value e.attributes }))
IsMade t old new (changes.Chars key chars) other = Holds old new key (contents.Chars chars)
