-- Elements whose own texts, attributes or name are others, where what is kept is right for the document as it was before.
use Rattle.std.specs.Prelude.{◌≡◌, ◌≢◌, ℕ, true}
use Rattle.compiled_schema.specs.declared.compiled.Compiled.{Compiled}
use Rattle.doc_nodes.specs.Nodes.{Node, Nodes, IsNode, Holds, is_element_at, element_children}
use Rattle.doc_nodes.specs.declared.content.Content.TheVariants as contents
use Rattle.doc_nodes.specs.declared.content.Element.{Element}
use Rattle.doc_changes.specs.Held.{parent_at, attributes_at}
use Rattle.doc_changes.specs.Readers.{name_at, own_chars, scope_at}
use Rattle.kept_children.specs.Edited.{IsRightFor}
use Rattle.kept_children.specs.from_kept_state.KeptState.{KeptState}

-- ---- what is read of elements

module _ {A : Type 0} (read : Nodes → ℕ → A) (old new : Nodes) where
  -- of each element the same is read
  abbrev pub Stays : Type 0
  Stays = (m : ℕ) → is_element_at old m ≡ true → read new m ≡ read old m

  -- of each but this one
  abbrev pub StaysBut : ℕ → Type 0
  StaysBut n = (m : ℕ) → is_element_at old m ≡ true → m ≢ n → read new m ≡ read old m

-- the elements are the same, and each has its parent, its child elements and its scope
pub record HaveSameElements (old new : Nodes) : Type 0 where
  pub elements : (m : ℕ) → is_element_at new m ≡ is_element_at old m
  pub parents : Stays parent_at old new
  pub children : Stays element_children old new
  pub scopes : Stays scope_at old new

-- only the texts of an element are others
pub record Retexts (old new : Nodes) (n : ℕ) : Type 0 where
  pub elements : HaveSameElements old new
  pub names : Stays name_at old new
  pub attributes : Stays attributes_at old new
  pub texts : StaysBut own_chars old new n

-- only its attributes are
pub record Reattributes (old new : Nodes) (n : ℕ) : Type 0 where
  pub elements : HaveSameElements old new
  pub names : Stays name_at old new
  pub attributes : StaysBut attributes_at old new n
  pub texts : Stays own_chars old new

-- only its name is
pub record Renames (old new : Nodes) (n : ℕ) : Type 0 where
  pub elements : HaveSameElements old new
  pub names : StaysBut name_at old new n
  pub attributes : Stays attributes_at old new
  pub texts : Stays own_chars old new

-- ---- what is kept is right for the nodes as they were

module _ (c : Compiled) (ns : Nodes) (k : KeptState) where
  pub record IsRetexted (n : ℕ) : Type 0 where
    pub old : Nodes
    pub right : IsRightFor c old k
    pub element : is_element_at old n ≡ true
    pub retexts : Retexts old ns n

  pub record IsReattributed (n : ℕ) : Type 0 where
    pub old : Nodes
    pub right : IsRightFor c old k
    pub element : is_element_at old n ≡ true
    pub reattributes : Reattributes old ns n

  pub record IsNamedAnew (n : ℕ) : Type 0 where
    pub old : Nodes
    pub right : IsRightFor c old k
    pub node : Node
    pub is : IsNode old n node
    pub element : Element
    pub content : node.content ≡ contents.Element element
    pub name : ℕ
    pub holds : Holds old ns n (contents.Element (record element { name = name }))
