-- What a node says is what the tree says of it.
use Rattle.std.proofs.Common.{◌≡◌, ℕ, ◌≤◌, List, [], ◌==◌, if◌then◌else◌, length, map, sym, ap, ◌∙◌, subst, true, false, Option, Some, None, refl, inl, inr, arith}
use Rattle.std.specs.Prelude.{slice_get}
use Rattle.std.specs.Option.{option_map, option_and_then}
use Rattle.std.proofs.lemmas.Bool.{false_from_ne_true}
use Rattle.std.proofs.lemmas.Option.{same_Some, none-some, slice_get-map, slice_get_past}
use Rattle.xs_names.specs.Names.{NameTable}
use Rattle.tree_rows.specs.Forest.{Forest, none, text, element, Document}
use Rattle.tree_rows.specs.Kinds.{kind_of}
use Rattle.tree_rows.specs.Whole.{HasRoot, AreNodes}
use Rattle.tree_rows.specs.declared.row.Attribute.{Attribute}
use Rattle.tree_rows.specs.declared.row.Binding.{Binding}
use Rattle.tree_rows.specs.declared.row.Content.{Content}
use Rattle.tree_rows.specs.declared.row.Content.TheVariants as rows
use Rattle.tree_edits.specs.Edits.{has, found}
use Rattle.tree_edits.specs.Tests.{depth_of}
use Rattle.tree_edits.proofs.Standing.{missing}
use Rattle.plain_tree.specs.Nodes as plain
use Rattle.plain_tree.specs.Nodes.{first_of, node_at, name_by, name_at, chars_by, chars_at, attribute_at, child_at}
use Rattle.plain_tree.specs.Putting.{bindings_by, bindings_of}
use Rattle.doc_nodes.specs.declared.content.NameBinding.{NameBinding}
use Rattle.doc_nodes.specs.Nodes.{Node, Nodes, node, IsNode, Has, IsSound, depth_by}
use Rattle.doc_nodes.specs.Nodes as links
use Rattle.doc_nodes.specs.declared.content.Content as links_content
use Rattle.doc_changes.specs.Stands.{firsts, StandsFor, expanded_of, attribute_of, binding_of}
use Rattle.doc_changes.proofs.Lain.{at, depth_at}
use Rattle.doc_changes.specs.Held.{bindings_by as held_bindings, kind_in, name_in, chars_in, attributes_in, bindings_in}
use Rattle.doc_tree.specs.Readers.{parent_of, children_by, children_of}
use Rattle.doc_tree.proofs.Reading.{Shows, IsRead, absent, read, kind_by, kind_read, Under, parent_read, parent_absent, number_read}

-- what the tree says of a node, as far as a reader asks
module _ (t : NameTable) (ns : Nodes) (n : ℕ) (it : Node) (there : IsNode ns n it) where
  pub same_kind : (c : Content) (b : List Binding) (a : List Attribute) (f : Forest) → Shows t ns n c b a f → kind_in it.content ≡ kind_by c
  same_kind (rows.Element name) b a f s = ap kind_in (ap (λ (y : Node). y.content) (same_Some it s.0.it (sym there ∙ s.0.is)) ∙ s.0.content)
  same_kind (rows.Chars chars) b a f s = ap kind_in (ap (λ (y : Node). y.content) (same_Some it s.0.text (sym there ∙ s.0.is)) ∙ s.0.content)

  pub same_name : (c : Content) (b : List Binding) (a : List Attribute) (f : Forest) → Shows t ns n c b a f → option_map (expanded_of t) (name_in it.content) ≡ name_by c
  same_name (rows.Element name) b a f s =
      ap (λ y. option_map (expanded_of t) (name_in y)) (ap (λ (y : Node). y.content) (same_Some it s.0.it (sym there ∙ s.0.is)) ∙ s.0.content) ∙ ap Some s.0.name_is
  same_name (rows.Chars chars) b a f s = ap (λ y. option_map (expanded_of t) (name_in y)) (ap (λ (y : Node). y.content) (same_Some it s.0.text (sym there ∙ s.0.is)) ∙ s.0.content)

  pub same_chars : (c : Content) (b : List Binding) (a : List Attribute) (f : Forest) → Shows t ns n c b a f → chars_in it.content ≡ chars_by c
  same_chars (rows.Element name) b a f s = ap chars_in (ap (λ (y : Node). y.content) (same_Some it s.0.it (sym there ∙ s.0.is)) ∙ s.0.content)
  same_chars (rows.Chars chars) b a f s = ap chars_in (ap (λ (y : Node). y.content) (same_Some it s.0.text (sym there ∙ s.0.is)) ∙ s.0.content)

  pub same_attributes : (c : Content) (b : List Binding) (a : List Attribute) (f : Forest) → Shows t ns n c b a f → map (attribute_of t) (attributes_in it.content) ≡ a
  same_attributes (rows.Element name) b a f s =
      ap (λ y. map (attribute_of t) (attributes_in y)) (ap (λ (y : Node). y.content) (same_Some it s.0.it (sym there ∙ s.0.is)) ∙ s.0.content) ∙ s.0.attributes_are
  same_attributes (rows.Chars chars) b a f s =
      ap (λ y. map (attribute_of t) (attributes_in y)) (ap (λ (y : Node). y.content) (same_Some it s.0.text (sym there ∙ s.0.is)) ∙ s.0.content) ∙ sym s.1.1.0

  pub same_bindings : (c : Content) (b : List Binding) (a : List Attribute) (f : Forest) → Shows t ns n c b a f → map (binding_of t) (bindings_in it.content) ≡ b
  same_bindings (rows.Element name) b a f s =
      ap (λ y. map (binding_of t) (bindings_in y)) (ap (λ (y : Node). y.content) (same_Some it s.0.it (sym there ∙ s.0.is)) ∙ s.0.content) ∙ s.0.bindings_are
  same_bindings (rows.Chars chars) b a f s =
      ap (λ y. map (binding_of t) (bindings_in y)) (ap (λ (y : Node). y.content) (same_Some it s.0.text (sym there ∙ s.0.is)) ∙ s.0.content) ∙ sym s.1.0

  pub same_children : (c : Content) (b : List Binding) (a : List Attribute) (f : Forest) → Shows t ns n c b a f → it.children ≡ firsts f
  same_children (rows.Element name) b a f s = ap (λ (y : Node). y.children) (same_Some it s.0.it (sym there ∙ s.0.is)) ∙ s.0.children_are
  same_children (rows.Chars chars) b a f s = ap (λ (y : Node). y.children) (same_Some it s.0.text (sym there ∙ s.0.is)) ∙ s.0.no_children ∙ ap firsts (sym s.1.1.1)

  pub there_is : (c : Content) (b : List Binding) (a : List Attribute) (f : Forest) → Shows t ns n c b a f → Unit {0}
  there_is c b a f s = tt

-- a number that is of a node of the tree is of a node
shown_node : (t : NameTable) (ns : Nodes) (n : ℕ) (c : Content) (b : List Binding) (a : List Attribute) (f : Forest) → Shows t ns n c b a f → (it : Node) × IsNode ns n it
shown_node t ns n (rows.Element name) b a f s = (s.0.it, s.0.is)
shown_node t ns n (rows.Chars chars) b a f s = (s.0.text, s.0.is)

module _ (t : NameTable) (ns : Nodes) (d : Document) (z : StandsFor t ns d) (n : ℕ) where
  pub no_such : node ns n ≡ None → has n d.forest ≡ false
  no_such gone = false_from_ne_true (has n d.forest) (λ h.
      let r = read t ns n d.forest z.nodes h in
      let s = shown_node t ns n r.at.content r.at.bindings r.at.attributes r.at.children r.shows in
      none-some s.0 (sym gone ∙ s.1))

  pub not_at : node ns n ≡ None → node_at n d.forest ≡ None
  not_at gone = absent n d.forest (no_such gone)

  pub is_at : (it : Node) → IsNode ns n it → IsRead t ns n (node_at n d.forest)
  is_at it h = read t ns n d.forest z.nodes (z.only n it h)

  pub kind_is : (o : Option Node) → node ns n ≡ o → option_map (λ (it : Node). kind_in it.content) o ≡ kind_of n d.forest
  kind_is None h = sym (kind_read n d.forest ∙ ap (option_map (λ (x : plain.Node). kind_by x.content)) (not_at h))
  kind_is (Some it) h =
      let r = is_at it h in
      sym (kind_read n d.forest ∙ ap (option_map (λ (x : plain.Node). kind_by x.content)) r.is
      ∙ ap Some (sym (same_kind t ns n it h r.at.content r.at.bindings r.at.attributes r.at.children r.shows)))

  pub name_is : (o : Option Node) → node ns n ≡ o → option_map (expanded_of t) (option_and_then (λ (it : Node). name_in it.content) o) ≡ name_at n d.forest
  name_is None h = sym (ap (option_and_then (λ (x : plain.Node). name_by x.content)) (not_at h))
  name_is (Some it) h =
      let r = is_at it h in
      same_name t ns n it h r.at.content r.at.bindings r.at.attributes r.at.children r.shows ∙ sym (ap (option_and_then (λ (x : plain.Node). name_by x.content)) r.is)

  pub chars_are : (o : Option Node) → node ns n ≡ o → option_and_then (λ (it : Node). chars_in it.content) o ≡ chars_at n d.forest
  chars_are None h = sym (ap (option_and_then (λ (x : plain.Node). chars_by x.content)) (not_at h))
  chars_are (Some it) h =
      let r = is_at it h in
      same_chars t ns n it h r.at.content r.at.bindings r.at.attributes r.at.children r.shows ∙ sym (ap (option_and_then (λ (x : plain.Node). chars_by x.content)) r.is)

  pub attribute_is : (place : ℕ) (o : Option Node) → node ns n ≡ o
      → option_map (attribute_of t) (option_and_then (λ (it : Node). slice_get (attributes_in it.content) place) o) ≡ attribute_at n place d.forest
  attribute_is place None h = sym (ap (option_and_then (λ (x : plain.Node). slice_get x.attributes place)) (not_at h))
  attribute_is place (Some it) h =
      let r = is_at it h in
      sym (slice_get-map (attribute_of t) (attributes_in it.content) place)
      ∙ ap (λ l. slice_get l place) (same_attributes t ns n it h r.at.content r.at.bindings r.at.attributes r.at.children r.shows)
      ∙ sym (ap (option_and_then (λ (x : plain.Node). slice_get x.attributes place)) r.is)

  pub bindings_are : (o : Option Node) → node ns n ≡ o → map (binding_of t) (held_bindings o) ≡ bindings_of n d.forest
  bindings_are None h = sym (ap bindings_by (not_at h))
  bindings_are (Some it) h =
      let r = is_at it h in
      same_bindings t ns n it h r.at.content r.at.bindings r.at.attributes r.at.children r.shows ∙ sym (ap bindings_by r.is)

  pub depth_is : (o : Option Node) → node ns n ≡ o → depth_by o ≡ depth_of (found n 1 d.forest)
  depth_is None h = sym (ap depth_of (missing n 1 d.forest (no_such h)))
  depth_is (Some it) h = depth_at t ns d z n it h ∙ sym (ap depth_of (at t ns d z n it h).1)

  pub children_are : (o : Option Node) → node ns n ≡ o → links.children_by o ≡ children_of n d.forest
  children_are None h = sym (ap children_by (not_at h))
  children_are (Some it) h =
      let r = is_at it h in
      same_children t ns n it h r.at.content r.at.bindings r.at.attributes r.at.children r.shows ∙ sym (ap children_by r.is)

  pub child_is : (place : ℕ) → slice_get (children_of n d.forest) place ≡ child_at n place d.forest
  child_is place = by (node_at n d.forest)
    where
      by : (o : Option plain.Node) → slice_get (children_by o) place ≡ option_and_then (λ (x : plain.Node). plain.number_at place x.children) o
      by None = slice_get_past [] place (omega arith)
      by (Some x) = sym (number_read place x.children)

  pub parent_is : (sound : IsSound ns) → ((it : Node) → IsNode ns 1 it → it.parent ≡ None) → (o : Option Node) → node ns n ≡ o → option_and_then (λ (it : Node). it.parent) o ≡ parent_of n d.forest
  parent_is sound root None h = sym (parent_absent None n d.forest (no_such h))
  parent_is sound root (Some it) h = sym (parent_read t ns sound n it h None d.forest z.nodes (under_none d.forest z.tree.root) (z.only n it h))
    where
      under_none : (f : Forest) → HasRoot f → Under ns None (firsts f)
      under_none none r = λ c x k e. absurd r
      under_none (text number chars next) r = λ c x k e. absurd r
      under_none (element number name bindings attributes children next) r = λ c x k e.
          elim k [
            | inl q ↦ root x (ap (node ns) (sym r.0 ∙ q) ∙ e)
            | inr j ↦ absurd (subst (λ g. Has c (firsts g)) r.1 j)
          ]

-- what is read of a node by what it holds
pub by_content : {X : Type 0} (g : links_content.Content → X) (o : Option Node) → option_map (λ (it : Node). g it.content) o ≡ option_map g (option_map (λ (it : Node). it.content) o)
by_content g None = refl
by_content g (Some it) = refl

pub and_content : {X : Type 0} (g : links_content.Content → Option X) (o : Option Node) → option_and_then (λ (it : Node). g it.content) o ≡ option_and_then g (option_map (λ (it : Node). it.content) o)
and_content g None = refl
and_content g (Some it) = refl

-- a node has few bindings
pub few_bindings : (free n : ℕ) (f : Forest) → AreNodes free f → length (bindings_of n f) ≤ 256
few_bindings free n none a = omega arith
few_bindings free n (text number chars next) a =
    elim (number == n) as (λ b. length (bindings_by (if b then Some (record { content = rows.Chars chars; bindings = []; attributes = []; children = none }) else node_at n next)) ≤ 256) [
      | true ↦ omega arith
      | false ↦ few_bindings free n next a.1
    ]
few_bindings free n (element number name bindings attributes children next) a =
    elim (number == n) as (λ b. length (bindings_by (if b then Some (record { content = rows.Element name; bindings = bindings; attributes = attributes; children = children }) else first_of (node_at n children) (node_at n next))) ≤ 256) [
      | true ↦ let w = a.1.few in omega (arith, w)
      | false ↦
          elim (node_at n children) as (λ o. length (bindings_by o) ≤ 256 → length (bindings_by (first_of o (node_at n next))) ≤ 256) [
            | None ↦ λ k. few_bindings free n next a.3
            | Some x ↦ λ k. k
          ] (few_bindings free n children a.2)
    ]

abbrev pub bindings_by_content : Option links_content.Content → List NameBinding
bindings_by_content None = []
bindings_by_content (Some y) = bindings_in y

pub by_bindings : (o : Option Node) (p : Option links_content.Content) → option_map (λ (it : Node). it.content) o ≡ p → held_bindings o ≡ bindings_by_content p
by_bindings None p e = ap bindings_by_content e
by_bindings (Some it) p e = ap bindings_by_content e
