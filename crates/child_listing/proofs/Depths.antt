-- The depths of elements, and how many child elements they have.
use Rattle.std.proofs.Common.{◌≡◌, ℕ, zero, suc, ◌+◌, ◌<◌, ◌≤◌, ◌^◌, List, [], ◌∷◌, length, true, Option, None, Some, refl, sym, ap, ◌∙◌, subst, inl, inr, arith}
use Rattle.std.specs.Prelude.{nat_eq, filter}
use Rattle.std.specs.List.{IsDistinct}
use Rattle.std.specs.Option.{option_and_then}
use Rattle.std.proofs.lemmas.Option.{none-some}
use Rattle.xs_names.specs.Names.{NameTable}
use Rattle.tree_rows.specs.Forest.{Forest, none, text, element, Document, deepest_of}
use Rattle.tree_rows.specs.Whole.{HasRoot}
use Rattle.tree_rows.specs.declared.limits.TheConstants.{MAX_DEPTH}
use Rattle.assessment.specs.Local.{HasElement}
use Rattle.leaf_trees.proofs.FreeSlots.{In, distinct_more, few_below}
use Rattle.doc_nodes.specs.Nodes.{Node, Nodes, node, IsNode, Has, Distinct, IsSound, depth_by, children_by, is_element, is_element_by, is_element_at, element_children}
use Rattle.doc_nodes.proofs.Among.{lacks-has}
use Rattle.doc_changes.specs.Held.{parent_at}
use Rattle.doc_changes.specs.Stands.{StandFor, StandsFor, firsts}
use Rattle.doc_changes.proofs.Reading.{depth_below}
use Rattle.kept_judging.proofs.from_kept_records.Nodes.{has-element, root-there, there}
use Rattle.child_listing.proofs.Distinct.{distinct-filter, filtered}
use Rattle.child_listing.proofs.Parents.{parent-of}

-- ---- depths

module _ (t : NameTable) (ns : Nodes) (sound : IsSound ns) (most : ℕ) where
  depth-within : (f : Forest) → StandFor t ns f → (level : ℕ) → ((m : ℕ) → Has m (firsts f) → depth_by (node ns m) ≡ level) → deepest_of level f ≤ most → (n : ℕ) → HasElement n f → depth_by (node ns n) ≤ most
  depth-within none s level are deep n h = absurd h
  depth-within (text number chars next) s level are deep n h = depth-within next s.1 level (λ m k. are m (inr k)) deep n h
  depth-within (element number name bindings attributes children next) s level are deep n (inl e) =
      let own = are number (inl refl) in
      let same : depth_by (node ns number) ≡ depth_by (node ns n) = ap (λ m. depth_by (node ns m)) e in
      omega (arith, own, same, deep)
  depth-within (element number name bindings attributes children next) s level are deep n (inr (inl below)) =
      depth-within children s.1 (level + 1)
      (λ m k. depth_below ns number m sound (parent-of ns sound number m s.0.it s.0.is (subst (Has m) (sym s.0.children_are) k)) ∙ ap (λ d. d + 1) (are number (inl refl)))
      (omega (arith, deep)) n below
  depth-within (element number name bindings attributes children next) s level are deep n (inr (inr later)) =
      depth-within next s.2 level (λ m k. are m (inr k)) (omega (arith, deep)) n later

first-root : (f : Forest) → HasRoot f → (m : ℕ) → Has m (firsts f) → 1 ≡ m
first-root none root m h = absurd root
first-root (text number chars next) root m h = absurd root
first-root (element number name bindings attributes children next) root m (inl e) = sym root.0 ∙ e
first-root (element number name bindings attributes children next) root m (inr k) = absurd (subst (λ g. Has m (firsts g)) root.1 k)

module _ (t : NameTable) (ns : Nodes) (d : Document) (z : StandsFor t ns d) where
  root-node : (it : Node) × IsNode ns 1 it
  root-node = there t ns d.forest z.nodes 1 (root-there d.forest z.tree.root)

  pub root-parent : parent_at ns 1 ≡ None
  root-parent = ap (option_and_then (λ (it : Node). it.parent)) root-node.1 ∙ (z.root root-node.0 root-node.1).0

  pub root-depth : depth_by (node ns 1) ≡ 1
  root-depth = ap depth_by root-node.1 ∙ (z.root root-node.0 root-node.1).1

  pub element-depth : (n : ℕ) → is_element_at ns n ≡ true → depth_by (node ns n) ≤ MAX_DEPTH
  element-depth n is =
      depth-within t ns z.links MAX_DEPTH d.forest z.nodes 1 (λ m h. ap (λ k. depth_by (node ns k)) (sym (first-root d.forest z.tree.root m h)) ∙ root-depth) z.tree.shallow n (has-element t ns d z n is)

element-in : (t : NameTable) (ns : Nodes) (f : Forest) → StandFor t ns f → (n : ℕ) → HasElement n f → is_element_at ns n ≡ true
element-in t ns none s n h = absurd h
element-in t ns (text number chars next) s n h = element-in t ns next s.1 n h
element-in t ns (element number name bindings attributes children next) s n (inl e) =
    subst (λ m. is_element_at ns m ≡ true) e (ap is_element_by s.0.is ∙ ap is_element s.0.content)
element-in t ns (element number name bindings attributes children next) s n (inr (inl below)) = element-in t ns children s.1 n below
element-in t ns (element number name bindings attributes children next) s n (inr (inr later)) = element-in t ns next s.2 n later

pub root-element : (t : NameTable) (ns : Nodes) (d : Document) → StandsFor t ns d → is_element_at ns 1 ≡ true
root-element t ns d z = element-in t ns d.forest z.nodes 1 (root-there d.forest z.tree.root)

-- ---- how many child elements

within-nodes : (ns : Nodes) (n : ℕ) (it : Node) → IsNode ns n it → n < length ns
within-nodes [] zero it e = absurd (none-some it e)
within-nodes [] (suc n) it e = absurd (none-some it e)
within-nodes (o ∷ ns) zero it e = omega arith
within-nodes (o ∷ ns) (suc n) it e = let l = within-nodes ns n it e in omega (arith, l)

of-in : (xs : List ℕ) (y : ℕ) → In y xs → Has y xs
of-in [] y k = absurd k
of-in (x ∷ xs) y (inl e) = inl (sym e)
of-in (x ∷ xs) y (inr k) = inr (of-in xs y k)

distinct-of : (xs : List ℕ) → Distinct xs → IsDistinct nat_eq xs
unfolding IsDistinct
distinct-of [] d = tt
distinct-of (x ∷ xs) d = distinct_more x xs (λ y k. lacks-has x y xs d.0 (of-in xs y k)) (distinct-of xs d.1)

pub few-children : (ns : Nodes) → IsSound ns → (n : ℕ) → length (element_children ns n) < 2 ^ 32
few-children ns sound n = by (node ns n) refl
  where
    by : (o : Option Node) → node ns n ≡ o → length (filter (is_element_at ns) (children_by o)) < 2 ^ 32
    by None e = omega arith
    by (Some it) e =
        let few = sound.few in
        let less = few_below (filter (is_element_at ns) it.children) (length ns) (distinct-of (filter (is_element_at ns) it.children) (distinct-filter (is_element_at ns) it.children (sound.once n it e)))
        (λ q k. (let among = (filtered (is_element_at ns) it.children q (of-in (filter (is_element_at ns) it.children) q k)).0 in
        let child = sound.down n q it e among in within-nodes ns q child.child child.is)) in
        omega (arith, few, less)
