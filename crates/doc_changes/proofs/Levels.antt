-- What is read off nodes is the tree that they stand for.
use Rattle.std.proofs.Common.{◌≡◌, ℕ, zero, suc, ◌+◌, ◌≤◌, List, [], ◌∷◌, map, sym, ap, ◌∙◌, refl, arith}
use Rattle.std.specs.Prelude.{max}
use Rattle.xs_names.specs.Names.{NameTable}
use Rattle.tree_rows.specs.Forest.{Forest, none, text, element, Document, deepest_of}
use Rattle.tree_rows.specs.Whole.{HasRoot}
use Rattle.tree_rows.specs.declared.limits.TheConstants.{MAX_DEPTH}
use Rattle.tree_rows.specs.declared.name.Expanded.{Expanded}
use Rattle.tree_rows.specs.declared.row.Attribute.{Attribute}
use Rattle.tree_rows.specs.declared.row.Binding.{Binding}
use Rattle.doc_nodes.specs.Nodes.{Nodes, node}
use Rattle.doc_changes.specs.Stands.{firsts, IsText, IsElement, StandFor, StandsFor, expanded_of, attribute_of, binding_of}
use Rattle.doc_changes.specs.Documents.{with_content, with_node, siblings_of, levels_of, document_of}

module _ (t : NameTable) (ns : Nodes) (below : List ℕ → Forest) where
  text_is : (n : ℕ) (chars : List ℕ) (next : Forest) → IsText ns n chars → with_node t below n (node ns n) next ≡ text n chars next
  text_is n chars next s = ap (λ o. with_node t below n o next) s.is ∙ ap (λ c. with_content t n c (below s.text.children) next) s.content

  element_is : (n : ℕ) (name : Expanded) (bindings : List Binding) (attributes : List Attribute) (children next : Forest) → IsElement t ns n name bindings attributes children
      → with_node t below n (node ns n) next ≡ element n name bindings attributes (below (firsts children)) next
  element_is n name bindings attributes children next s =
      ap (λ o. with_node t below n o next) s.is
      ∙ ap (λ c. with_content t n c (below s.it.children) next) s.content
      ∙ ap (λ x. element n x (map (binding_of t) s.parts.bindings) (map (attribute_of t) s.parts.attributes) (below s.it.children) next) s.name_is
      ∙ ap (λ x. element n name x (map (attribute_of t) s.parts.attributes) (below s.it.children) next) s.bindings_are
      ∙ ap (λ x. element n name bindings x (below s.it.children) next) s.attributes_are
      ∙ ap (λ x. element n name bindings attributes (below x) next) s.children_are

  siblings_are : (most depth : ℕ) → ((g : Forest) → StandFor t ns g → depth ≤ most → deepest_of (depth + 1) g ≤ most → below (firsts g) ≡ g)
      → (f : Forest) → StandFor t ns f → deepest_of depth f ≤ most → siblings_of t ns below (firsts f) ≡ f
  siblings_are most depth h none s d = refl
  siblings_are most depth h (text n chars next) s d =
      text_is n chars (siblings_of t ns below (firsts next)) s.0 ∙ ap (text n chars) (siblings_are most depth h next s.1 d)
  siblings_are most depth h (element n name bindings attributes children next) s d =
      element_is n name bindings attributes children (siblings_of t ns below (firsts next)) s.0
      ∙ ap (λ g. element n name bindings attributes g (siblings_of t ns below (firsts next))) (h children s.1 (omega (arith, d)) (omega (arith, d)))
      ∙ ap (element n name bindings attributes children) (siblings_are most depth h next s.2 (omega (arith, d)))

-- where enough levels are read
levels_are : (t : NameTable) (ns : Nodes) (most levels depth : ℕ) (f : Forest) → StandFor t ns f → depth ≤ most + 1 → most + 2 ≤ depth + levels → deepest_of depth f ≤ most → levels_of t ns levels (firsts f) ≡ f
unfolding levels_of
levels_are t ns most zero depth f s a b d = absurd (omega (arith, a, b))
levels_are t ns most (suc levels) depth f s a b d =
    siblings_are t ns (levels_of t ns levels) most depth (λ g sg c e. levels_are t ns most levels (depth + 1) g sg (omega (arith, c)) (omega (arith, b)) e) f s d

root_alone : (f : Forest) → HasRoot f → firsts f ≡ 1 ∷ []
root_alone none h = absurd h
root_alone (text number chars next) h = absurd h
root_alone (element number name bindings attributes children next) h = ap (λ m. m ∷ firsts next) h.0 ∙ ap (λ f. 1 ∷ firsts f) h.1

pub document_is : (t : NameTable) (ns : Nodes) (d : Document) → StandsFor t ns d → document_of t ns ≡ d
unfolding document_of
document_is t ns d s =
    let read : levels_of t ns (MAX_DEPTH + 1) (1 ∷ []) ≡ d.forest =
    ap (levels_of t ns (MAX_DEPTH + 1)) (sym (root_alone d.forest s.tree.root))
    ∙ levels_are t ns MAX_DEPTH (MAX_DEPTH + 1) 1 d.forest s.nodes (omega arith) (omega arith) s.tree.shallow in
    (λ i. record { forest = read i; next_free = s.next i })
