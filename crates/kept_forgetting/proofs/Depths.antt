-- The depths of elements.
use Rattle.std.proofs.Common.{◌≡◌, ℕ, ◌+◌, ◌≤◌, true, None, sym, ap, ◌∙◌, subst, inl, inr, arith, refl}
use Rattle.std.specs.Option.{option_and_then}
use Rattle.xs_names.specs.Names.{NameTable}
use Rattle.tree_rows.specs.Forest.{Forest, none, text, element, Document, deepest_of}
use Rattle.tree_rows.specs.Whole.{HasRoot}
use Rattle.tree_rows.specs.declared.limits.TheConstants.{MAX_DEPTH}
use Rattle.assessment.specs.Local.{HasElement}
use Rattle.doc_nodes.specs.Nodes.{Node, Nodes, node, IsNode, Has, IsSound, depth_by, is_element_at}
use Rattle.doc_changes.specs.Held.{parent_at}
use Rattle.doc_changes.specs.Stands.{StandFor, StandsFor, firsts}
use Rattle.doc_changes.proofs.Reading.{depth_below}
use Rattle.kept_state.proofs.from_kept_records.Nodes.{has-element, root-there, there}
use Rattle.kept_forgetting.proofs.Walks.{parent-of}

-- ---- depths

module _ (t : NameTable) (ns : Nodes) (sound : IsSound ns) (most : ℕ) where
  depth-within : (f : Forest) → StandFor t ns f → (level : ℕ) → ((m : ℕ) → Has m (firsts f) → depth_by (node ns m) ≡ level) → deepest_of level f ≤ most → (n : ℕ) → HasElement n f → depth_by (node ns n) ≤ most
  depth-within none s level are deep n h = absurd h
  depth-within (text number chars next) s level are deep n h = depth-within next s.1 level (λ m k. are m (inr k)) deep n h
  depth-within (element number name bindings attributes children next) s level are deep n (inl e) =
      let own = are number (inl refl) in
      let same : depth_by (node ns number) ≡ depth_by (node ns n) = ap (λ m. depth_by (node ns m)) e in
      omega (arith, own, same, deep)
  depth-within (element number name bindings attributes children next) s level are deep n (inr (inl below)) =
      depth-within children s.1 (level + 1)
      (λ m k. depth_below ns number m sound (parent-of ns sound number m s.0.it s.0.is (subst (Has m) (sym s.0.children_are) k)) ∙ ap (λ d. d + 1) (are number (inl refl)))
      (omega (arith, deep)) n below
  depth-within (element number name bindings attributes children next) s level are deep n (inr (inr later)) =
      depth-within next s.2 level (λ m k. are m (inr k)) (omega (arith, deep)) n later

first-root : (f : Forest) → HasRoot f → (m : ℕ) → Has m (firsts f) → 1 ≡ m
first-root none root m h = absurd root
first-root (text number chars next) root m h = absurd root
first-root (element number name bindings attributes children next) root m (inl e) = sym root.0 ∙ e
first-root (element number name bindings attributes children next) root m (inr k) = absurd (subst (λ g. Has m (firsts g)) root.1 k)

module _ (t : NameTable) (ns : Nodes) (d : Document) (z : StandsFor t ns d) where
  root-node : (it : Node) × IsNode ns 1 it
  root-node = there t ns d.forest z.nodes 1 (root-there d.forest z.tree.root)

  pub root-parent : parent_at ns 1 ≡ None
  root-parent = ap (option_and_then (λ (it : Node). it.parent)) root-node.1 ∙ (z.root root-node.0 root-node.1).0

  pub root-depth : depth_by (node ns 1) ≡ 1
  root-depth = ap depth_by root-node.1 ∙ (z.root root-node.0 root-node.1).1

  pub element-depth : (n : ℕ) → is_element_at ns n ≡ true → depth_by (node ns n) ≤ MAX_DEPTH
  element-depth n is =
      depth-within t ns z.links MAX_DEPTH d.forest z.nodes 1 (λ m h. ap (λ k. depth_by (node ns k)) (sym (first-root d.forest z.tree.root m h)) ∙ root-depth) z.tree.shallow n (has-element t ns d z n is)
