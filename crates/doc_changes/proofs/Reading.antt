-- What nodes say of the elements of the tree that they stand for.
use Rattle.std.proofs.Common.{◌≡◌, ℕ, zero, suc, ◌+◌, List, [], ◌∷◌, ◌++◌, map, cond, sym, ap, ◌∙◌, subst, Bool, true, false, Option, Some, None, refl, inl, inr, arith}
use Rattle.std.specs.Prelude.{filter, flat_map, unwrap_or}
use Rattle.std.specs.Option.{option_and_then}
use Rattle.std.proofs.lemmas.Option.{same_Some, none-some}
use Rattle.xs_names.specs.Names.{NameTable}
use Rattle.xs_names.specs.Scope.{first_scope}
use Rattle.tree_rows.specs.Forest.{Forest, none, text, element, Document}
use Rattle.tree_rows.specs.declared.name.Expanded.{Expanded}
use Rattle.tree_rows.specs.declared.row.Attribute.{Attribute}
use Rattle.tree_rows.specs.declared.row.Binding.{Binding}
use Rattle.doc_nodes.specs.Nodes.{Node, Nodes, node, IsNode, Has, is_element, is_element_by, is_element_at, children_by, element_children, depth_by, IsSound}
use Rattle.doc_changes.specs.Held.{name_in, chars_in, attributes_by, attributes_in, bindings_by, bindings_in, parent_at}
use Rattle.doc_changes.specs.Stands.{firsts, IsText, IsElement, StandFor, StandsFor, expanded_of, attribute_of, binding_of}
use Rattle.doc_changes.specs.Readers.{name_by, name_at, chars_by, chars_at, own_chars, characters, element_numbers, IsRead, AreRead, own_scope, outer_scope, scope_upto, scope_at}

module _ (t : NameTable) (ns : Nodes) where
  element_is : (n : ℕ) (name : Expanded) (bindings : List Binding) (attributes : List Attribute) (children : Forest) → IsElement t ns n name bindings attributes children
      → (is_element_at ns n ≡ true) × (chars_at ns n ≡ [])
  element_is n name bindings attributes children s = (
    ap is_element_by s.is ∙ ap is_element s.content,
    ap chars_by s.is ∙ ap (λ c. unwrap_or (chars_in c) []) s.content,
  )

  text_is : (n : ℕ) (chars : List ℕ) → IsText ns n chars → (is_element_at ns n ≡ false) × (chars_at ns n ≡ chars)
  text_is n chars s = (
    ap is_element_by s.is ∙ ap is_element s.content,
    ap chars_by s.is ∙ ap (λ c. unwrap_or (chars_in c) []) s.content,
  )

  chars_of : (f : Forest) → StandFor t ns f → flat_map (chars_at ns) (firsts f) ≡ characters f
  chars_of none s = refl
  chars_of (text n chars next) s = ap (λ l. l ++ flat_map (chars_at ns) (firsts next)) (text_is n chars s.0).1 ∙ ap (λ l. chars ++ l) (chars_of next s.1)
  chars_of (element n name bindings attributes children next) s =
      ap (λ l. l ++ flat_map (chars_at ns) (firsts next)) (element_is n name bindings attributes children s.0).1 ∙ chars_of next s.2

  elements_of : (f : Forest) → StandFor t ns f → filter (is_element_at ns) (firsts f) ≡ element_numbers f
  elements_of none s = refl
  elements_of (text n chars next) s =
      ap (λ b. cond b (n ∷ filter (is_element_at ns) (firsts next)) (filter (is_element_at ns) (firsts next))) (text_is n chars s.0).0 ∙ elements_of next s.1
  elements_of (element n name bindings attributes children next) s =
      ap (λ b. cond b (n ∷ filter (is_element_at ns) (firsts next)) (filter (is_element_at ns) (firsts next))) (element_is n name bindings attributes children s.0).0
      ∙ ap (λ l. n ∷ l) (elements_of next s.2)

  read_one : (n : ℕ) (name : Expanded) (bindings : List Binding) (attributes : List Attribute) (children : Forest) → IsElement t ns n name bindings attributes children → StandFor t ns children
      → IsRead t ns n name bindings attributes children
  read_one n name bindings attributes children s below = record {
    name_is = ap (λ o. expanded_of t (name_by o)) s.is ∙ ap (λ c. expanded_of t (unwrap_or (name_in c) 0)) s.content ∙ s.name_is;
    bindings_are = ap (λ o. map (binding_of t) (bindings_by o)) s.is ∙ ap (λ c. map (binding_of t) (bindings_in c)) s.content ∙ s.bindings_are;
    attributes_are = ap (λ o. map (attribute_of t) (attributes_by o)) s.is ∙ ap (λ c. map (attribute_of t) (attributes_in c)) s.content ∙ s.attributes_are;
    chars_are = ap (λ o. flat_map (chars_at ns) (children_by o)) s.is ∙ ap (flat_map (chars_at ns)) s.children_are ∙ chars_of children below;
    children_are = ap (λ o. filter (is_element_at ns) (children_by o)) s.is ∙ ap (filter (is_element_at ns)) s.children_are ∙ elements_of children below;
  }

  pub are_read : (f : Forest) → StandFor t ns f → AreRead t ns f
  are_read none s = tt
  are_read (text n chars next) s = are_read next s.1
  are_read (element n name bindings attributes children next) s =
      (read_one n name bindings attributes children s.0 s.1, are_read children s.1, are_read next s.2)

-- the scope of a child is in that of its parent
pub scope_below : (ns : Nodes) (p c : ℕ) → parent_at ns c ≡ Some p → depth_by (node ns c) ≡ depth_by (node ns p) + 1 → scope_at ns c ≡ own_scope ns c ++ scope_at ns p
unfolding scope_upto
scope_below ns p c up deep =
    let more : depth_by (node ns c) ≡ suc (depth_by (node ns p)) = omega (arith, deep) in
    ap (λ k. scope_upto ns k c) more ∙ ap (λ o. own_scope ns c ++ outer_scope (scope_upto ns (depth_by (node ns p))) o) up

root_upto : (ns : Nodes) (n levels : ℕ) → parent_at ns n ≡ None → scope_upto ns levels n ≡ own_scope ns n ++ first_scope
unfolding scope_upto
root_upto ns n zero up = refl
root_upto ns n (suc levels) up = ap (λ o. own_scope ns n ++ outer_scope (scope_upto ns levels) o) up

-- the scope of a node that has no parent
pub scope_root : (ns : Nodes) (n : ℕ) → parent_at ns n ≡ None → scope_at ns n ≡ own_scope ns n ++ first_scope
scope_root ns n up = root_upto ns n (depth_by (node ns n)) up

parent_node : (o : Option Node) (p : ℕ) → option_and_then (λ (it : Node). it.parent) o ≡ Some p → (it : Node) × (o ≡ Some it) × (it.parent ≡ Some p)
parent_node None p e = absurd (none-some p e)
parent_node (Some it) p e = (it, refl, e)

-- a child stands one level below its parent
pub depth_below : (ns : Nodes) (p c : ℕ) → IsSound ns → parent_at ns c ≡ Some p → depth_by (node ns c) ≡ depth_by (node ns p) + 1
depth_below ns p c sound up =
    let z = parent_node (node ns c) p up in
    let h = sound.up c p z.0 z.1 z.2 in
    let d = sound.down p c h.parent h.is h.has in
    ap depth_by d.is ∙ d.below ∙ ap (λ o. depth_by o + 1) (sym h.is)
