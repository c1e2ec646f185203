-- What is found among the children of a node.
use Rattle.std.proofs.Common.{◌≡◌, ℕ, ◌<◌, ◌≤◌, List, [], length, drop, sym, ap, ◌∙◌, Option, Some, None, Bool, refl, arith}
use Rattle.std.specs.Prelude.{slice_get, find}
use Rattle.std.specs.Option.{option_map}
use Rattle.std.proofs.lemmas.List.{drop-map, drop_all}
use Rattle.std.proofs.lemmas.Option.{same_Some, slice_get_past}
use Rattle.child_trees.specs.Lists.{Entry, IsUpTo, acts_along}
use Rattle.doc_nodes.specs.declared.firsts.First.{First}
use Rattle.doc_nodes.specs.declared.slots.Slot.{Slot}
use Rattle.doc_nodes.specs.Nodes.{Node, node, is_element, is_element_by, is_element_at, children_by, Has}
use Rattle.doc_nodes.specs.Slots.{slot}
use Rattle.doc_nodes.specs.Firsts.{no_child, number_if, first_found}
use Rattle.doc_nodes.specs.Linked.{Orders, entries, number_of, node_in, nodes_of, IsLinked}
use Rattle.doc_nodes.proofs.Leading.{first_child, first_element, has-drop}
use Rattle.doc_nodes.proofs.Seen.{node_is, shown, counted, has_child, number_hung}

-- where a number is of no node
pub no_node : (ss : List (Option Slot)) (v : Orders) (n : ℕ) → slot ss n ≡ None → node (nodes_of ss v) n ≡ None
no_node ss v n h = node_is ss v n ∙ ap (option_map (node_in v)) h

pub no_child_at : (place : ℕ) (o : Option Node) → o ≡ None → None ≡ slice_get (children_by o) place
no_child_at place o e = sym (ap (λ y. slice_get (children_by y) place) e ∙ slice_get_past [] place (omega arith))

pub no_element_from : (test : ℕ → Bool) (place : ℕ) (o : Option Node) → o ≡ None → None ≡ find test (drop place (children_by o))
no_element_from test place o e = sym (ap (λ y. find test (drop place (children_by y))) e ∙ ap (find test) (drop_all place [] (omega arith)))

module _ (ss : List (Option Slot)) (v : Orders) (n : ℕ) (s : Slot) (i : IsLinked ss v) (there : slot ss n ≡ Some s) (place : ℕ) where
  pub up_to : place < s.count → IsUpTo v s.list place
  up_to lt = λ xs h.
      let o = i.owner n s there in
      let same : length o.list ≡ length xs = ap length (same_Some o.list xs (sym o.is ∙ h)) in
      let count = o.count in
      omega (arith, lt, same, count)

  pub child_found : (acts_along first_found no_child (drop place (entries v s.list))).child ≡ slice_get (children_by (node (nodes_of ss v) n)) place
  child_found = first_child (entries v s.list) place (has_child ss v n s i there) ∙ ap (λ y. slice_get (children_by y) place) (sym (shown ss v n s there))

  pub child_past : s.count ≤ place → None ≡ slice_get (children_by (node (nodes_of ss v) n)) place
  child_past le = let count = counted ss v n s i there in sym (slice_get_past (children_by (node (nodes_of ss v) n)) place (omega (arith, le, count)))

  is_shown : (e : Entry First) → Has e (entries v s.list) → e.act.element ≡ number_if (is_element_at (nodes_of ss v) (number_of e)) (number_of e)
  is_shown e k =
      let d = i.down n s e there k in
      let kind : is_element_at (nodes_of ss v) d.number ≡ is_element d.child.content = ap is_element_by (shown ss v d.number d.child d.is) in
      ap (λ a. a.element) d.act ∙ ap (λ b. number_if b d.number) (sym kind)
      ∙ ap (λ m. number_if (is_element_at (nodes_of ss v) m) m) (sym (number_hung ss n s e d))

  pub element_found : (acts_along first_found no_child (drop place (entries v s.list))).element ≡ find (is_element_at (nodes_of ss v)) (drop place (children_by (node (nodes_of ss v) n)))
  element_found =
      first_element (is_element_at (nodes_of ss v)) (drop place (entries v s.list)) no_child refl (λ e k. is_shown e (has-drop place (entries v s.list) e k))
      ∙ ap (find (is_element_at (nodes_of ss v))) (sym (drop-map number_of place (entries v s.list)))
      ∙ ap (λ y. find (is_element_at (nodes_of ss v)) (drop place (children_by y))) (sym (shown ss v n s there))

  pub element_past : s.count ≤ place → None ≡ find (is_element_at (nodes_of ss v)) (drop place (children_by (node (nodes_of ss v) n)))
  element_past le =
      let count = counted ss v n s i there in
      sym (ap (find (is_element_at (nodes_of ss v))) (drop_all place (children_by (node (nodes_of ss v) n)) (omega (arith, le, count))))
