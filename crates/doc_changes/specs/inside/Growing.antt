-- Siblings that are put among the children of a node, one after the other, each with all that is below it.
use Rattle.std.specs.Prelude.{◌≡◌, ◌≢◌, ℕ, ◌+◌, ◌≤◌, ◌<◌, List, ◌++◌, length, true, false, None}
use Rattle.std.specs.List.{insert_slice}
use Rattle.xs_names.specs.Names.{NameTable}
use Rattle.tree_rows.specs.Forest.{Forest, none, count, deepest_of}
use Rattle.tree_rows.specs.Rows.{node as node_of}
use Rattle.tree_rows.specs.Whole.{times}
use Rattle.tree_rows.specs.declared.limits.TheConstants.{MAX_DEPTH, MAX_NODES}
use Rattle.tree_rows.specs.declared.name.Expanded.{Expanded}
use Rattle.tree_rows.specs.declared.row.Attribute.{Attribute}
use Rattle.tree_rows.specs.declared.row.Binding.{Binding}
use Rattle.tree_rows.specs.declared.row.Row.{Row}
use Rattle.tree_edits.specs.Edits.{has, append, renumbered}
use Rattle.tree_edits.proofs.BlockNaming.{HaveNames}
use Rattle.tree_edits.proofs.Keeping.{IsAlone}
use Rattle.doc_nodes.specs.declared.content.Content.TheVariants as contents
use Rattle.doc_nodes.specs.declared.content.Element.{Element}
use Rattle.doc_nodes.specs.Nodes.{Node, Nodes, node, IsNode, Inserts, IsSound}
use Rattle.doc_changes.specs.Stands.{firsts, StandFor}
use Rattle.doc_changes.specs.Named.{IsCalled}

-- the nodes under the numbers from this one on
abbrev pub numbered_by : ℕ → Forest → Forest
numbered_by first f = renumbered first f

-- the number behind so many nodes
abbrev pub behind : ℕ → ℕ → ℕ
behind first more = first + more

-- a node of a row with what is below it, and nothing beside it
abbrev pub one_of : Row → Forest → Forest
one_of row children = node_of row.number row.content row.bindings row.attributes children none

-- the children of a node with new ones: behind them, or before the child of a place
abbrev pub at_end : List ℕ → List ℕ → List ℕ
at_end new old = old ++ new

abbrev pub before : ℕ → List ℕ → List ℕ → List ℕ
before place new old = insert_slice old place new

-- the numbers of the siblings, and of all below them, were given out, and are of no node
abbrev pub AreFree : Nodes → Forest → Type 0
AreFree ns f = (m : ℕ) → has m f ≡ true → (node ns m ≡ None) × (m < length ns)

-- the siblings can be put below p: their numbers are free and differ, and no element comes to stand too deep
pub record CanPlant (ns : Nodes) (p : ℕ) (f : Forest) : Type 0 where
  pub it : Node
  pub is : IsNode ns p it
  pub high : it.depth ≤ MAX_DEPTH
  pub shallow : deepest_of (it.depth + 1) f ≤ MAX_DEPTH
  pub free : AreFree ns f
  pub differ : (key : ℕ) → times key f ≤ 1
  pub names : HaveNames f
  pub few : count f ≤ MAX_NODES
  pub sound : IsSound ns

-- the siblings stand among the children of p, and each other number has what it had
pub record Planted (t : NameTable) (old new : Nodes) (p : ℕ) (put : List ℕ → List ℕ → List ℕ) (f : Forest) : Type 0 where
  pub size : length new ≡ length old
  pub parent : (it : Node) → IsNode old p it → IsNode new p (record it { children = put (firsts f) it.children })
  pub stand : StandFor t new f
  pub others : (m : ℕ) → has m f ≡ false → m ≢ p → node new m ≡ node old m
  pub sound : IsSound new

-- an element without children has become the child of p at this place
pub record PutsElement (t : NameTable) (old new : Nodes) (p place n : ℕ) (name : Expanded) (bindings : List Binding) (attributes : List Attribute) : Type 0 where
  pub parts : Element
  pub called : IsCalled t parts name bindings attributes
  pub inserts : Inserts old new p place n (contents.Element parts)

-- the first of the siblings stand there, and the others do not
pub record PlantedFirst (t : NameTable) (old new : Nodes) (p : ℕ) (put : List ℕ → List ℕ → List ℕ) (whole : Forest) : Type 0 where
  pub part : Forest
  pub rest : Forest
  pub split : whole ≡ append part rest
  pub planted : Planted t old new p put part

-- a part of one root can be put below p before the child of this place, where the numbers up to this one are given to it
pub record CanGrow (ns : Nodes) (p place : ℕ) (f : Forest) (until : ℕ) : Type 0 where
  pub it : Node
  pub is : IsNode ns p it
  pub within : place ≤ length it.children
  pub high : it.depth ≤ MAX_DEPTH
  pub shallow : deepest_of (it.depth + 1) f ≤ MAX_DEPTH
  pub names : HaveNames f
  pub few : count f ≤ MAX_NODES
  pub alone : IsAlone f
  pub numbers : until ≡ length ns + count f
  pub sound : IsSound ns
