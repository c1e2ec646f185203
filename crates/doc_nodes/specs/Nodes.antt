-- Nodes by their numbers: what each holds, its parent and its children.
use Rattle.std.specs.Prelude.{◌≡◌, ◌≢◌, ℕ, ◌+◌, ◌^◌, ◌<◌, List, [], ◌∷◌, ◌⊎◌, length, map, filter, insert, remove, slice_get, Option, Some, None, Bool, true, false, slice_index_or}
use Rattle.doc_nodes.specs.declared.content.Content.{Content}
use Rattle.doc_nodes.specs.declared.content.Content.TheVariants.{Element, Chars}
use Rattle.doc_nodes.specs.declared.content.NewNode.{NewNode}

abbrev pub is_element : Content → Bool
is_element (Element e) = true
is_element (Chars chars) = false

-- a node: its parent, none for the root, which has depth 1, what it holds, and the numbers of its children in order
pub record Node : Type 0 where
  pub parent : Option ℕ
  pub depth : ℕ
  pub content : Content
  pub children : List ℕ

-- the node of each number that was given out, none where it is of no node any more
abbrev pub Nodes : Type 0
Nodes = List (Option Node)

abbrev pub node : Nodes → ℕ → Option Node
node ns n = slice_index_or ns n None

-- this is the node of the number
abbrev pub IsNode : Nodes → ℕ → Node → Type 0
IsNode ns n it = node ns n ≡ Some it

-- c is the child of p at this place
abbrev pub IsChildAt : Nodes → ℕ → ℕ → ℕ → Type 0
IsChildAt ns p place c = (it : Node) × IsNode ns p it × (slice_get it.children place ≡ Some c)

abbrev pub depth_by : Option Node → ℕ
depth_by None = 0
depth_by (Some it) = it.depth

abbrev pub children_by : Option Node → List ℕ
children_by None = []
children_by (Some it) = it.children

abbrev pub is_element_by : Option Node → Bool
is_element_by None = false
is_element_by (Some it) = is_element it.content

-- the number is that of an element
abbrev pub is_element_at : Nodes → ℕ → Bool
is_element_at ns n = is_element_by (node ns n)

-- the child elements of a node, in order
abbrev pub element_children : Nodes → ℕ → List ℕ
element_children ns n = filter (is_element_at ns) (children_by (node ns n))

-- a root alone
abbrev pub alone : Content → Nodes
alone content = None ∷ Some (record { parent = None; depth = 1; content = content; children = [] }) ∷ []

-- x is one of these
abbrev pub Has : {A : Type 0} → A → List A → Type 0
Has x [] = ⊥
Has x (c ∷ cs) = (c ≡ x) ⊎ Has x cs

abbrev pub Lacks : ℕ → List ℕ → Type 0
Lacks x [] = Unit {0}
Lacks x (c ∷ cs) = (c ≢ x) × Lacks x cs

-- no number comes twice
abbrev pub Distinct : List ℕ → Type 0
Distinct [] = Unit {0}
Distinct (c ∷ cs) = Lacks c cs × Distinct cs

-- c is the node of a child of p, one level deeper
pub record IsChildOf (ns : Nodes) (p depth c : ℕ) : Type 0 where
  pub child : Node
  pub is : IsNode ns c child
  pub parent : child.parent ≡ Some p
  pub below : child.depth ≡ depth + 1

-- p is a node, and c is one of its children
pub record HasChild (ns : Nodes) (p c : ℕ) : Type 0 where
  pub parent : Node
  pub is : IsNode ns p parent
  pub has : Has c parent.children

-- each child has its parent, each node but a root is a child of its parent, and once
pub record IsSound (ns : Nodes) : Type 0 where
  pub down : (p c : ℕ) (it : Node) → IsNode ns p it → Has c it.children → IsChildOf ns p it.depth c
  pub up : (c p : ℕ) (it : Node) → IsNode ns c it → it.parent ≡ Some p → HasChild ns p c
  pub once : (p : ℕ) (it : Node) → IsNode ns p it → Distinct it.children
  pub few : length ns < 2 ^ 32

-- a new node c without children has become the child of p at a place
pub record Inserts (old new : Nodes) (p place c : ℕ) (content : Content) : Type 0 where
  pub size : length new ≡ length old
  pub parent : (it : Node) → IsNode old p it → IsNode new p (record it { children = insert it.children place c })
  pub child : (it : Node) → IsNode old p it → IsNode new c (record { parent = Some p; depth = it.depth + 1; content = content; children = [] })
  pub others : (m : ℕ) → m ≢ p → m ≢ c → node new m ≡ node old m

-- the numbers of these were given out, and are of no nodes
abbrev pub AreFree : Nodes → List NewNode → Type 0
AreFree ns cs = (c : NewNode) → Has c cs → (node ns c.number ≡ None) × (c.number < length ns)

-- p, which had no children, has these new ones in order, which have none
pub record InsertsAll (old new : Nodes) (p : ℕ) (cs : List NewNode) : Type 0 where
  pub size : length new ≡ length old
  pub parent : (it : Node) → IsNode old p it → IsNode new p (record it { children = map (λ c. c.number) cs })
  pub children : (it : Node) (c : NewNode) → IsNode old p it → Has c cs → IsNode new c.number (record { parent = Some p; depth = it.depth + 1; content = c.content; children = [] })
  pub others : (m : ℕ) → m ≢ p → Lacks m (map (λ c. c.number) cs) → node new m ≡ node old m

-- c was the child of p at a place, and is no node any more
pub record Removes (old new : Nodes) (p place c : ℕ) : Type 0 where
  pub size : length new ≡ length old
  pub parent : (it : Node) → IsNode old p it → IsNode new p (record it { children = remove it.children place })
  pub gone : node new c ≡ None
  pub others : (m : ℕ) → m ≢ p → m ≢ c → node new m ≡ node old m

-- the node n holds this now, and each other number has what it had
pub record Holds (old new : Nodes) (n : ℕ) (content : Content) : Type 0 where
  pub size : length new ≡ length old
  pub here : (it : Node) → IsNode old n it → IsNode new n (record it { content = content })
  pub others : (m : ℕ) → m ≢ n → node new m ≡ node old m
