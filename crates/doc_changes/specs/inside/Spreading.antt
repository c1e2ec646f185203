-- What is below a node, put one list of children after the other.
use Rattle.std.specs.Prelude.{◌≡◌, ℕ, List, [], ◌∷◌}
use Rattle.xs_names.specs.Names.{NameTable}
use Rattle.tree_rows.specs.Forest.{Forest, none, text, element}
use Rattle.tree_rows.specs.declared.name.Expanded.{Expanded}
use Rattle.tree_rows.specs.declared.row.Attribute.{Attribute}
use Rattle.tree_rows.specs.declared.row.Binding.{Binding}
use Rattle.tree_rows.specs.declared.row.Content.{Content}
use Rattle.tree_rows.specs.declared.row.Content.TheVariants as rows
use Rattle.doc_nodes.specs.declared.content.Content.TheVariants as contents
use Rattle.doc_nodes.specs.declared.content.Element.{Element}
use Rattle.doc_nodes.specs.declared.content.NewNode.{NewNode}
use Rattle.doc_nodes.specs.Nodes.{Node, Nodes, IsNode}
use Rattle.doc_changes.specs.Named.{IsCalled}
use Rattle.doc_changes.specs.inside.Growing.{CanPlant, Planted, at_end}

pub record IsTextOf (it : NewNode) (n : ℕ) (chars : List ℕ) : Type 0 where
  pub number : it.number ≡ n
  pub content : it.content ≡ contents.Chars chars

pub record IsElementOf (t : NameTable) (it : NewNode) (n : ℕ) (name : Expanded) (bindings : List Binding) (attributes : List Attribute) : Type 0 where
  pub number : it.number ≡ n
  pub parts : Element
  pub content : it.content ≡ contents.Element parts
  pub called : IsCalled t parts name bindings attributes

-- these are the nodes of the siblings, without what is below them
abbrev pub AreNodesOf : NameTable → List NewNode → Forest → Type 0
AreNodesOf t [] none = Unit {0}
AreNodesOf t [] (text n chars next) = ⊥
AreNodesOf t [] (element n name bindings attributes children next) = ⊥
AreNodesOf t (it ∷ more) none = ⊥
AreNodesOf t (it ∷ more) (text n chars next) = IsTextOf it n chars × AreNodesOf t more next
AreNodesOf t (it ∷ more) (element n name bindings attributes children next) = IsElementOf t it n name bindings attributes × AreNodesOf t more next

-- the node has no children
abbrev pub IsBare : Nodes → ℕ → Type 0
IsBare ns n = (it : Node) → IsNode ns n it → it.children ≡ []

-- what is below a node can be put
abbrev pub CanFill : Nodes → ℕ → Content → Forest → Type 0
CanFill ns n (rows.Element name) children = CanPlant ns n children × IsBare ns n
CanFill ns n (rows.Chars chars) children = Unit {0}

-- it was put; there is nothing below a text
abbrev pub Filled : NameTable → Nodes → Nodes → ℕ → Content → Forest → Type 0
Filled t old new n (rows.Element name) children = Planted t old new n at_end children
Filled t old new n (rows.Chars chars) children = new ≡ old
