-- The names of elements and attributes by the numbers of a table.
use Rattle.std.proofs.Common.{◌≡◌, ◌≢◌, ℕ, ◌+◌, ◌<◌, ◌≤◌, List, [], ◌∷◌, length, map, sym, ap, ◌∙◌, subst, true, false, ◌==◌, if◌then◌else◌, Option, Some, None, refl, inl, inr, arith, All}
use Rattle.std.specs.Prelude.{slice_get, slice_index_or, bytes_eq}
use Rattle.std.specs.List.{list_any}
use Rattle.std.specs.Option.{option_map}
use Rattle.std.proofs.lemmas.Bool.{eqb-true, ne_eqb, or_cases, or_left, or_right, true≢false}
use Rattle.std.proofs.lemmas.List.{length-map}
use Rattle.std.proofs.lemmas.Option.{same_Some, none-some, get_or_from_slice_get}
use Rattle.std.proofs.lemmas.Slice.Eq.{bytes_eq-Decides}
use Rattle.xs_names.specs.Names as names
use Rattle.xs_names.specs.Names.{NameTable, IsSound, absent_space, space_number, name_number}
use Rattle.xs_names.proofs.NumberingLaws.{list_any-map, slice_get-number_of, slice_get-Begins, same_name-Decides}
use Rattle.tree_rows.specs.Forest.{Forest, none, text, element, Document}
use Rattle.tree_rows.specs.Naming.{same_name}
use Rattle.tree_rows.specs.Whole.{IsNamespace, AreNodes}
use Rattle.tree_rows.specs.declared.name.Expanded.{Expanded}
use Rattle.tree_rows.specs.declared.row.Attribute.{Attribute}
use Rattle.tree_rows.specs.declared.row.NodeKind.TheVariants as kinds
use Rattle.tree_edits.specs.Changes.{has_name}
use Rattle.tree_edits.specs.Edits.{Found, found}
use Rattle.tree_edits.proofs.Lying.{Lies, lies}
use Rattle.tree_edits.specs.Tests.{attributes_of, bindings_of, has_attribute, is_full}
use Rattle.tree_edits.proofs.Attributing.{same_name_is, room_left, room_own, no_room}
use Rattle.plain_tree.specs.Numbers.{space_in, name_in}
use Rattle.plain_tree.specs.Found.{HasSpace, HasName}
use Rattle.plain_tree.specs.Table.{with_expanded}
use Rattle.plain_tree.proofs.Numbers.{number_there, else_number, name_within, has_expanded}
use Rattle.plain_tree.proofs.Staying.{expanded_stays}
use Rattle.doc_nodes.specs.Nodes.{Node, Nodes}
use Rattle.doc_nodes.specs.declared.content.Content.{Content}
use Rattle.doc_nodes.specs.declared.content.NameAttribute.{NameAttribute}
use Rattle.doc_changes.specs.Stands.{StandsFor, namespace_of, expanded_of, attribute_of, binding_of}
use Rattle.doc_changes.specs.Held.{kind_at, attributes_at, attributes_by, attributes_in, bindings_at, bindings_by, bindings_in, has_number}
use Rattle.doc_changes.proofs.Named.{has_number as number_has_name}
use Rattle.doc_edits.specs.inside.Tested.{IsAmong, IsThere, IsSettable}
use Rattle.doc_edits.proofs.Placing.{own}

-- the name of a namespace that is not the absent one
pub space_shown : (t : NameTable) (n : ℕ) (name : List ℕ) → slice_get t.spaces n ≡ Some name → n ≢ absent_space → namespace_of t n ≡ Some name
space_shown t n name here more =
    ap (λ b. if b then None else Some (slice_index_or t.spaces n [])) (ne_eqb n absent_space more) ∙ ap Some (get_or_from_slice_get t.spaces n name [] here)

-- a name that was put into a table is the name of its number
namespace_back : (u : NameTable) → IsSound u → (space : Option (List ℕ)) → IsNamespace space → HasSpace u space → namespace_of u (space_in u space) ≡ space
namespace_back u sound None is h = refl
namespace_back u sound (Some name) is h =
    let p = number_there (space_number u name) h in
    let here = slice_get-number_of bytes_eq bytes_eq-Decides u.spaces name p.0 p.1 in
    let more : p.0 ≢ absent_space = λ e.
    let first = slice_get-Begins names.first_spaces u.spaces sound.begins 0 [] refl in
    let empty : [] ≡ name = same_Some [] name (sym first ∙ ap (slice_get u.spaces) (sym e) ∙ here) in
    let none_left = ap length empty in
    absurd (omega (arith, is, none_left)) in
    ap (namespace_of u) (else_number (space_number u name) absent_space p.0 p.1) ∙ space_shown u p.0 name here more

pub name_called : (u : NameTable) → IsSound u → (name : Expanded) → IsNamespace name.namespace → HasName u name → expanded_of u (name_in u name) ≡ name
name_called u sound name is h =
    let p = number_there (name_number u (space_in u name.namespace) name.local) h.number in
    let here = slice_get-number_of names.same_name same_name-Decides u.names (space_in u name.namespace, name.local) p.0 p.1 in
    let pair = get_or_from_slice_get u.names p.0 (space_in u name.namespace, name.local) (0, []) here in
    ap (expanded_of u) (else_number (name_number u (space_in u name.namespace) name.local) 0 p.0 p.1)
    ∙ ap (λ (q : ℕ × List ℕ). record { namespace = namespace_of u q.0; local = q.1 }) pair
    ∙ ap (λ s. record { namespace = s; local = name.local }) (namespace_back u sound name.namespace is h.space)

-- a name by its number is found where an attribute has it
has_by_number : (t : NameTable) (number : ℕ) (name : Expanded) → same_name (expanded_of t number) name ≡ true → (xs : List NameAttribute) → has_number number xs ≡ true
    → list_any (λ (a : NameAttribute). same_name (expanded_of t a.name) name) xs ≡ true
has_by_number t number name same [] h = absurd (true≢false (sym h))
has_by_number t number name same (x ∷ xs) h = elim (or_cases (x.name == number) (list_any (λ (a : NameAttribute). a.name == number) xs) h) [
  | inl e ↦ or_left (same_name (expanded_of t x.name) name) (list_any (λ (a : NameAttribute). same_name (expanded_of t a.name) name) xs)
      (ap (λ n. same_name (expanded_of t n) name) (eqb-true x.name number e) ∙ same)
  | inr k ↦ or_right (same_name (expanded_of t x.name) name) (list_any (λ (a : NameAttribute). same_name (expanded_of t a.name) name) xs)
      (has_by_number t number name same xs k)
]

-- the names of an element in a tree
nodes_lies : (free key depth : ℕ) (f : Forest) (it : Found) → Lies key depth f it → AreNodes free f → AreNodes free it.node
nodes_lies free key depth none it l a = absurd l
nodes_lies free key depth (text m chars next) it (inl l) a = subst (λ (i : Found). AreNodes free i.node) (sym l.1) (a.0, tt)
nodes_lies free key depth (text m chars next) it (inr l) a = nodes_lies free key depth next it l.1 a.1
nodes_lies free key depth (element m name bindings attributes children next) it (inl l) a = subst (λ (i : Found). AreNodes free i.node) (sym l.1) (a.0, a.1, a.2, tt)
nodes_lies free key depth (element m name bindings attributes children next) it (inr (inl l)) a = nodes_lies free key (depth + 1) children it l.2 a.2
nodes_lies free key depth (element m name bindings attributes children next) it (inr (inr l)) a = nodes_lies free key depth next it l.2 a.3

module _ (t : NameTable) (ns : Nodes) (d : Document) (z : StandsFor t ns d) (n : ℕ) (k : kind_at ns n ≡ Some kinds.Element) where
  held_attributes : attributes_at ns n ≡ (own t ns d z n k).shown.parts.attributes
  held_attributes = ap attributes_by (own t ns d z n k).shown.is ∙ ap attributes_in (own t ns d z n k).shown.content

  held_bindings : bindings_at ns n ≡ (own t ns d z n k).shown.parts.bindings
  held_bindings = ap bindings_by (own t ns d z n k).shown.is ∙ ap bindings_in (own t ns d z n k).shown.content

  pub attributes_here : map (attribute_of t) (attributes_at ns n) ≡ attributes_of (found n 1 d.forest)
  attributes_here = ap (map (attribute_of t)) held_attributes ∙ (own t ns d z n k).shown.attributes_are ∙ sym (ap attributes_of (own t ns d z n k).is_found)

  pub bindings_here : map (binding_of t) (bindings_at ns n) ≡ bindings_of (found n 1 d.forest)
  bindings_here = ap (map (binding_of t)) held_bindings ∙ (own t ns d z n k).shown.bindings_are ∙ sym (ap bindings_of (own t ns d z n k).is_found)

  pub known_here : All (λ a. a.name < length t.names) (attributes_at ns n)
  known_here = subst (All (λ (a : NameAttribute). a.name < length t.names)) (sym held_attributes) (own t ns d z n k).shown.known.attributes

  pub sizes_here : length (attributes_of (found n 1 d.forest)) + length (bindings_of (found n 1 d.forest)) ≡ length (attributes_at ns n) + length (bindings_at ns n)
  sizes_here =
      let a = ap length attributes_here in let b = ap length bindings_here in
      let c = length-map (attributes_at ns n) (attribute_of t) in let e = length-map (bindings_at ns n) (binding_of t) in
      omega (arith, a, b, c, e)

  has_here : (name : Expanded) → list_any (λ (a : NameAttribute). same_name (expanded_of t a.name) name) (attributes_at ns n) ≡ has_attribute d n name
  has_here name = list_any-map (attribute_of t) (λ (a : Attribute). same_name a.name name) (attributes_at ns n) ∙ ap (has_name name) attributes_here

  pub none_there : (name : Expanded) → list_any (λ (a : NameAttribute). same_name (expanded_of t a.name) name) (attributes_at ns n) ≡ false → has_attribute d n name ≡ false
  none_there name e = sym (has_here name) ∙ e

  pub one_there : (name : Expanded) (number : ℕ) → has_number number (attributes_at ns n) ≡ true → same_name (expanded_of t number) name ≡ true → number < length t.names → IsThere t ns d n name (Some number)
  one_there name number h same l =
      (sym (has_here name) ∙ has_by_number t number name same (attributes_at ns n) h, h, same_name_is (expanded_of t number) name same, l)

  -- an attribute that may be set
  pub set_there : (name : Expanded) (number : ℕ) → IsThere t ns d n name (Some number) → IsSettable t t ns d n name number
  set_there name number h = record {
    free = room_own name (bindings_of (found n 1 d.forest)) (attributes_of (found n 1 d.forest)) h.0;
    room = inl h.1;
    called = h.2;
    within = h.3;
    names = sym (expanded_stays t name (subst (HasName t) h.2 (number_has_name t z.table number h.3)));
  }

  pub set_more : (u : NameTable) (name : Expanded) (number : ℕ) → IsNamespace name.namespace → IsSound u → length (attributes_at ns n) + length (bindings_at ns n) < 256
      → u ≡ with_expanded t name → number ≡ name_in u name → IsSettable t u ns d n name number
  set_more u name number is sound less table id =
      let has : HasName u name = subst (λ v. HasName v name) (sym table) (has_expanded t name) in
      let size = sizes_here in
      record {
        free = room_left (has_name name (attributes_of (found n 1 d.forest))) (length (attributes_of (found n 1 d.forest)) + length (bindings_of (found n 1 d.forest))) (omega (arith, less, size));
        room = inr less;
        called = ap (expanded_of u) id ∙ name_called u sound name is has;
        within = subst (λ m. m < length u.names) (sym id) (name_within u name has);
        names = table;
      }

  pub full_here : (name : Expanded) → has_attribute d n name ≡ false → 256 ≤ length (attributes_at ns n) + length (bindings_at ns n) → is_full d n name ≡ true
  full_here name lacks much = let size = sizes_here in no_room name (bindings_of (found n 1 d.forest)) (attributes_of (found n 1 d.forest)) lacks (omega (arith, much, size))

  -- it has at most 256 of both
  pub few_here : length (attributes_at ns n) + length (bindings_at ns n) ≤ 256
  few_here =
      let o = own t ns d z n k in
      let named = (nodes_lies d.next_free n 1 d.forest _ (lies n 1 d.forest _ o.is_found) z.tree.nodes).1 in
      let few = named.few in
      let a = ap (λ f. length (attributes_of f)) o.is_found in let b = ap (λ f. length (bindings_of f)) o.is_found in
      let size = sizes_here in
      omega (arith, few, a, b, size)

  -- what is found among its attributes
  pub there_is : (name : Expanded) (r : Option ℕ) → IsAmong t (attributes_at ns n) name r → IsThere t ns d n name r
  there_is name None h = none_there name h
  there_is name (Some number) h = one_there name number h.0 h.1 h.2

-- what a node holds
pub no_attributes : (o : Option Node) → None ≡ option_map (λ (it : Node). it.content) o → [] ≡ attributes_by o
no_attributes None e = refl
no_attributes (Some it) e = absurd (none-some it.content e)

pub some_attributes : (o : Option Node) (c : Content) → Some c ≡ option_map (λ (it : Node). it.content) o → attributes_in c ≡ attributes_by o
some_attributes None c e = absurd (none-some c (sym e))
some_attributes (Some it) c e = ap attributes_in (same_Some c it.content e)
