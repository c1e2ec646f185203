-- What a node is, by its number.
use Rattle.std.proofs.Common.{◌≡◌, ℕ, ◌+◌, List, Bool, true, false, ◌==◌, ◌||◌, Option, Some, None, refl, sym, ap, ◌∙◌}
use Rattle.tree_rows.specs.Forest.{Forest, none, text, element}
use Rattle.tree_rows.specs.Kinds.{first_kind, kind_of}
use Rattle.tree_rows.specs.declared.name.Expanded.{Expanded}
use Rattle.tree_rows.specs.declared.row.Attribute.{Attribute}
use Rattle.tree_rows.specs.declared.row.Binding.{Binding}
use Rattle.tree_rows.specs.declared.row.NodeKind.{NodeKind}
use Rattle.tree_rows.specs.declared.row.NodeKind.TheVariants.{Element, Chars}
use Rattle.tree_edits.specs.Edits.{Found, has, found}
use Rattle.plain_tree.specs.Nodes.{Node, first_of, node_at}
use Rattle.tree_rows.specs.declared.row.Row.{Row}
use Rattle.plain_tree.specs.Behind.{kind_by, IsNode}

-- the kind of a node that was looked up
abbrev kind_at : Option Node → Option NodeKind
kind_at None = None
kind_at (Some node) = Some (kind_by node.content)

kind-first : (a b : Option Node) → kind_at (first_of a b) ≡ first_kind (kind_at a) (kind_at b)
kind-first None b = refl
kind-first (Some node) b = refl

text_kind : (key n : ℕ) (chars : List ℕ) (next : Forest) → kind_at (node_at key next) ≡ kind_of key next
    → (t : Bool) → (n == key) ≡ t → kind_at (node_at key (text n chars next)) ≡ kind_of key (text n chars next)
text_kind key n chars next later true t = rw t refl
text_kind key n chars next later false t = rw t later

element_kind : (key n : ℕ) (name : Expanded) (bindings : List Binding) (attributes : List Attribute) (children next : Forest)
    → kind_at (node_at key children) ≡ kind_of key children → kind_at (node_at key next) ≡ kind_of key next
    → (t : Bool) → (n == key) ≡ t → kind_at (node_at key (element n name bindings attributes children next)) ≡ kind_of key (element n name bindings attributes children next)
element_kind key n name bindings attributes children next below later true t = rw t refl
element_kind key n name bindings attributes children next below later false t =
    rw t (kind-first (node_at key children) (node_at key next) ∙ ap (λ k. first_kind k (kind_at (node_at key next))) below ∙ ap (first_kind (kind_of key children)) later)

kind-node : (key : ℕ) (f : Forest) → kind_at (node_at key f) ≡ kind_of key f
kind-node key none = refl
kind-node key (text n chars next) = text_kind key n chars next (kind-node key next) (n == key) refl
kind-node key (element n name bindings attributes children next) =
    element_kind key n name bindings attributes children next (kind-node key children) (kind-node key next) (n == key) refl

-- the kind of a row that was found
abbrev pub row_kind : Option (Row × List Row) → Option NodeKind
row_kind None = None
row_kind (Some found) = Some (kind_by found.0.content)

kind-row : (found : Option (Row × List Row)) (node : Option Node) → IsNode found node → row_kind found ≡ kind_at node
kind-row None None is = refl
kind-row None (Some node) is = absurd is
kind-row (Some found) None is = absurd is
kind-row (Some found) (Some node) is = ap (λ c. Some (kind_by c)) is.content

-- the kind of the node of a number is that of its row
pub kind_is_row : (key : ℕ) (f : Forest) (found : Option (Row × List Row)) → IsNode found (node_at key f) → row_kind found ≡ kind_of key f
kind_is_row key f found is = kind-row found (node_at key f) is ∙ kind-node key f

or_first : (a b : Bool) → (a || b) ≡ false → a ≡ false
or_first false b e = refl
or_first true b e = cc

or_second : (a b : Bool) → (a || b) ≡ false → b ≡ false
or_second false b e = e
or_second true b e = cc

missing : (key : ℕ) (f : Forest) → has key f ≡ false → kind_of key f ≡ None
missing key none e = refl
missing key (text n chars next) e = rw (or_first (n == key) (has key next) e) (missing key next (or_second (n == key) (has key next) e))
missing key (element n name bindings attributes children next) e =
    let later = or_second (n == key) (has key children || has key next) e in
    rw (or_first (n == key) (has key children || has key next) e, missing key children (or_first (has key children) (has key next) later))
    (missing key next (or_second (has key children) (has key next) later))

-- what stands first in the node that was found
abbrev pub kind_in : Forest → Option NodeKind
kind_in none = None
kind_in (text number chars next) = Some Chars
kind_in (element number name bindings attributes children next) = Some Element

abbrev pub kind_found : Option Found → Option NodeKind
kind_found None = None
kind_found (Some it) = kind_in it.node

-- the node of a number is found, and is of its kind
record IsKind (key low : ℕ) (f : Forest) : Type 0 where
  pub kind : NodeKind
  pub of : kind_of key f ≡ Some kind
  pub there : kind_found (found key low f) ≡ Some kind

text_found : (key low n : ℕ) (chars : List ℕ) (next : Forest) → (has key next ≡ true → IsKind key low next)
    → (t : Bool) → (n == key) ≡ t → (t || has key next) ≡ true → IsKind key low (text n chars next)
text_found key low n chars next later true t h = record { kind = Chars; of = rw t refl; there = rw t refl }
text_found key low n chars next later false t h = let i = later h in record { kind = i.kind; of = rw t i.of; there = rw t i.there }

element_found : (key low n : ℕ) (name : Expanded) (bindings : List Binding) (attributes : List Attribute) (children next : Forest)
    → (has key children ≡ true → IsKind key (low + 1) children) → (has key next ≡ true → IsKind key low next)
    → (t : Bool) → (n == key) ≡ t → (u : Bool) → has key children ≡ u → (t || (u || has key next)) ≡ true
    → IsKind key low (element n name bindings attributes children next)
element_found key low n name bindings attributes children next below later true t u b h = record { kind = Element; of = rw t refl; there = rw t refl }
element_found key low n name bindings attributes children next below later false t true b h =
    let i = below b in
    record { kind = i.kind; of = rw (t, i.of) refl; there = rw (t, b) i.there }
element_found key low n name bindings attributes children next below later false t false b h =
    let i = later h in
    record { kind = i.kind; of = rw (t, missing key children b) i.of; there = rw (t, b) i.there }

is_kind : (key low : ℕ) (f : Forest) → has key f ≡ true → IsKind key low f
is_kind key low none h = absurd (cc h)
is_kind key low (text n chars next) h = text_found key low n chars next (is_kind key low next) (n == key) refl h
is_kind key low (element n name bindings attributes children next) h =
    element_found key low n name bindings attributes children next (is_kind key (low + 1) children) (is_kind key low next) (n == key) refl (has key children) refl h

has_if : (key : ℕ) (f : Forest) (kind : NodeKind) → kind_of key f ≡ Some kind → (h : Bool) → has key f ≡ h → has key f ≡ true
has_if key f kind e true h = h
has_if key f kind e false h = let no = missing key f h in absurd (cc (e, no))

-- a number that has a kind is a node's
pub has_kind : (key : ℕ) (f : Forest) (kind : NodeKind) → kind_of key f ≡ Some kind → has key f ≡ true
has_kind key f kind e = has_if key f kind e (has key f) refl

pub kind_is_found : (key low : ℕ) (f : Forest) (kind : NodeKind) → kind_of key f ≡ Some kind → kind_found (found key low f) ≡ Some kind
kind_is_found key low f kind e = let i = is_kind key low f (has_kind key f kind e) in i.there ∙ sym i.of ∙ e
