-- A root that was made, and all that was put below it.
use Rattle.std.proofs.Common.{◌≡◌, ◌≢◌, ℕ, zero, suc, ◌<◌, ◌≤◌, List, [], length, sym, ap, ◌∙◌, subst, Bool, true, false, ◌==◌, ◌||◌, None, refl, inl, inr, arith}
use Rattle.std.proofs.lemmas.Bool.{or_cases, or_left, or_right, eqb-true, eq-eqb, false≢true}
use Rattle.std.proofs.lemmas.Option.{same_Some, none-some}
use Rattle.xs_names.specs.Names.{NameTable, IsSound}
use Rattle.tree_rows.specs.Forest.{Forest, none, text, element, Document}
use Rattle.tree_rows.specs.Rows.{node as node_of}
use Rattle.tree_rows.specs.Whole.{IsNamed, AreNodes, HasRoot, IsTree}
use Rattle.tree_rows.specs.declared.row.Row.{Row}
use Rattle.tree_rows.specs.declared.row.Content.{Content}
use Rattle.tree_rows.specs.declared.row.Content.TheVariants as rows
use Rattle.tree_rows.specs.declared.name.Expanded.{Expanded}
use Rattle.tree_rows.specs.declared.row.Attribute.{Attribute}
use Rattle.tree_rows.specs.declared.row.Binding.{Binding}
use Rattle.tree_edits.specs.Edits.{has}
use Rattle.tree_edits.proofs.BlockNaming.{HaveNames}
use Rattle.tree_edits.proofs.Keeping.{IsAlone}
use Rattle.doc_nodes.specs.declared.content.Content as contents_of
use Rattle.doc_nodes.specs.declared.content.Content.TheVariants as contents
use Rattle.doc_nodes.specs.declared.content.Element.{Element}
use Rattle.doc_nodes.specs.Nodes.{Node, Nodes, node, IsNode, alone, IsSound as AreSound}
use Rattle.doc_changes.specs.Stands.{firsts, StandsFor}
use Rattle.doc_changes.proofs.Standing.{has_times}
use Rattle.doc_changes.specs.Named.{IsCalled}
use Rattle.doc_changes.specs.inside.Growing.{at_end, one_of, CanPlant, Planted}

-- the row of a root
module _ (row : Row) (children : Forest) (free : ℕ) (tree : IsTree (record { forest = one_of row children; next_free = free })) where
  module _ (name : Expanded) (is : row.content ≡ rows.Element name) where
    pub root_is_1 : row.number ≡ 1
    root_is_1 = (subst (λ c. HasRoot (node_of row.number c row.bindings row.attributes children none)) is tree.root).0

    pub as_root : one_of row children ≡ element 1 name row.bindings row.attributes children none
    as_root = ap (λ c. node_of row.number c row.bindings row.attributes children none) is ∙ ap (λ n. element n name row.bindings row.attributes children none) root_is_1

    pub root_tree : IsTree (record { forest = element 1 name row.bindings row.attributes children none; next_free = free })
    root_tree = subst (λ f. IsTree (record { forest = f; next_free = free })) as_root tree

    pub root_named : IsNamed name row.bindings row.attributes
    root_named = (root_tree).nodes.1

    pub root_below : 2 ≤ free
    root_below = let h = (root_tree).nodes.0.1 in omega (arith, h)

-- a tree is a root with what is below it
module _ (d : Document) (tree : IsTree d) (row : Row) (children next : Forest) (taken : d.forest ≡ node_of row.number row.content row.bindings row.attributes children next) where
  no_next : (c : Content) → HasRoot (node_of row.number c row.bindings row.attributes children next) → next ≡ none
  no_next (rows.Element name) r = r.1
  no_next (rows.Chars chars) r = absurd r

  pub one_root : d.forest ≡ one_of row children
  one_root = taken ∙ ap (node_of row.number row.content row.bindings row.attributes children) (no_next row.content (subst HasRoot taken tree.root))

  pub same_tree : d ≡ record { forest = one_of row children; next_free = d.next_free }
  same_tree = λ i. record { forest = one_root i; next_free = d.next_free }

pub alone_root : (f : Forest) → HasRoot f → IsAlone f
alone_root none r = absurd r
alone_root (text n chars next) r = absurd r
alone_root (element n name bindings attributes children next) r = r.1

-- the numbers of nodes are above 0 and below the next free one
pub number_in : (free m : ℕ) (f : Forest) → AreNodes free f → has m f ≡ true → (0 < m) × (m < free)
number_in free m none a h = absurd (false≢true h)
number_in free m (text n chars next) a h = elim (or_cases (n == m) (has m next) h) [
  | inl e ↦ subst (λ k. (0 < k) × (k < free)) (eqb-true n m e) a.0
  | inr k ↦ number_in free m next a.1 k
]
number_in free m (element n name bindings attributes children next) a h = elim (or_cases (n == m) (has m children || has m next) h) [
  | inl e ↦ subst (λ k. (0 < k) × (k < free)) (eqb-true n m e) a.0
  | inr k ↦ elim (or_cases (has m children) (has m next) k) [
    | inl j ↦ number_in free m children a.2 j
    | inr j ↦ number_in free m next a.3 j
  ]
]

-- the names of a tree's nodes
pub names_in : (free : ℕ) (f : Forest) → AreNodes free f → HaveNames f
names_in free none a = tt
names_in free (text n chars next) a = names_in free next a.1
names_in free (element n name bindings attributes children next) a = (a.1, names_in free children a.2, names_in free next a.3)

alone_free : (content : contents_of.Content) (m : ℕ) → m ≢ 1 → node (alone content) m ≡ None
alone_free content zero d = refl
alone_free content (suc zero) d = absurd (d refl)
alone_free content (suc (suc m)) d = refl

-- a root alone has no children
pub bare_root : (mid : Nodes) (content : contents_of.Content) (it : Node) → node mid 1 ≡ node (alone content) 1 → IsNode mid 1 it → it.children ≡ []
bare_root mid content it same h = sym (ap (λ (x : Node). x.children) (same_Some (record { parent = None; depth = 1; content = content; children = [] }) it (sym same ∙ h)))

module _ (mid : Nodes) (free : ℕ) (content : contents_of.Content) (name : Expanded) (bindings : List Binding) (attributes : List Attribute) (children : Forest)
    (tree : IsTree (record { forest = element 1 name bindings attributes children none; next_free = free }))
    (nodes : (m : ℕ) → node mid m ≡ node (alone content) m) (size : length mid ≡ free) (sound : AreSound mid) where
  abbrev root : Node
  root = record { parent = None; depth = 1; content = content; children = [] }

  root_is : IsNode mid 1 root
  root_is = nodes 1

  not_root : (m : ℕ) → has m children ≡ true → m ≢ 1
  not_root m h e =
      let a = has_times 1 children (subst (λ k. has k children ≡ true) e h) in let b = tree.differ 1 in
      absurd (omega (arith, a, b))

  pub can_root : CanPlant mid 1 children
  can_root = record {
    it = root;
    is = root_is;
    high = omega arith;
    shallow = (let s = tree.shallow in omega (arith, s));
    free = λ m h. (nodes m ∙ alone_free content m (not_root m h), subst (λ k. m < k) (sym size) (number_in free m children tree.nodes.2 h).1);
    differ = λ m. let a = tree.differ m in omega (arith, a);
    names = names_in free children tree.nodes.2;
    few = (let a = tree.few in omega (arith, a));
    sound = sound;
  }

  pub root_stands : (t : NameTable) (new : Nodes) (parts : Element) → content ≡ contents.Element parts → IsSound t → IsCalled t parts name bindings attributes → Planted t mid new 1 at_end children
      → StandsFor t new (record { forest = element 1 name bindings attributes children none; next_free = free })
  root_stands t new parts holds table called planted = record {
    table = table;
    links = planted.sound;
    tree = tree;
    nodes = (
      record {
        it = record root { children = firsts children };
        is = planted.parent root root_is;
        parts = parts;
        content = holds;
        known = called.known;
        name_is = called.name_is;
        bindings_are = called.bindings_are;
        attributes_are = called.attributes_are;
        children_are = refl;
      },
      planted.stand,
      tt,
    );
    root = λ it h. let same = same_Some (record root { children = firsts children }) it (sym (planted.parent root root_is) ∙ h) in (sym (ap (λ (x : Node). x.parent) same), sym (ap (λ (x : Node). x.depth) same));
    only = λ n it h. only_by n it h (1 == n) refl (has n children) refl;
    next = planted.size ∙ size;
  }
    where
      only_by : (n : ℕ) (it : Node) → IsNode new n it → (b : Bool) → (1 == n) ≡ b → (c : Bool) → has n children ≡ c → (1 == n || (has n children || false)) ≡ true
      only_by n it h true e c k = or_left (1 == n) (has n children || false) e
      only_by n it h false e true k = or_right (1 == n) (has n children || false) (or_left (has n children) false k)
      only_by n it h false e false k =
          let d : n ≢ 1 = λ j. false≢true (sym e ∙ eq-eqb 1 n (sym j)) in
          absurd (none-some it (sym (planted.others n k d ∙ nodes n ∙ alone_free content n d) ∙ h))
