-- An element's place among the child elements of its parent.
use Rattle.std.proofs.Common.{◌≡◌, ℕ, zero, suc, List, [], ◌∷◌, length, take, cond, sym, ap, ◌∙◌, Bool, true, false, Option, Some, None, refl, arith}
use Rattle.std.specs.Prelude.{slice_get, filter}
use Rattle.std.specs.Option.{option_and_then}
use Rattle.std.proofs.lemmas.Option.{same_Some, none-some, slice_get_past}
use Rattle.doc_nodes.specs.Nodes.{Node, Nodes, node, IsNode, IsChildAt, IsSound, is_element_at, children_by, element_children}
use Rattle.doc_changes.specs.Held.{parent_at}
use Rattle.doc_tree.proofs.Walking.{child_place, placed_parent}

-- what passes a test stands, among all that do, behind as many as pass it before
filtered_at : (test : ℕ → Bool) (xs : List ℕ) (place x : ℕ) → slice_get xs place ≡ Some x → test x ≡ true → slice_get (filter test xs) (length (filter test (take place xs))) ≡ Some x
filtered_at test [] place x e t = absurd (none-some x (sym (slice_get_past [] place (omega arith)) ∙ e))
filtered_at test (y ∷ ys) zero x e t =
    ap (λ b. slice_get (cond b (y ∷ filter test ys) (filter test ys)) 0) (ap test (same_Some y x e) ∙ t) ∙ e
filtered_at test (y ∷ ys) (suc place) x e t =
    elim (test y) as (λ b. slice_get (cond b (y ∷ filter test ys) (filter test ys)) (length (cond b (y ∷ filter test (take place ys)) (filter test (take place ys)))) ≡ Some x) [
      | true ↦ filtered_at test ys place x e t
      | false ↦ filtered_at test ys place x e t
    ]

module _ (ns : Nodes) (n : ℕ) (sound : IsSound ns) (r : Option ℕ)
    (before : (p place : ℕ) → IsChildAt ns p place n → r ≡ Some (length (filter (is_element_at ns) (take place (children_by (node ns p)))))) where
  pub found_there : (p : ℕ) → parent_at ns n ≡ Some p → is_element_at ns n ≡ true → option_and_then (slice_get (element_children ns p)) r ≡ Some n
  found_there p up is =
      let k = child_place ns n p sound up in
      ap (option_and_then (slice_get (element_children ns p))) (before p k.0 k.1)
      ∙ filtered_at (is_element_at ns) (children_by (node ns p)) k.0 n (ap (λ o. slice_get (children_by o) k.0) k.1.1 ∙ k.1.2) is

-- a node without a parent has no place
pub no_place : {X : Type 0} (ns : Nodes) (p place n : ℕ) → IsSound ns → IsChildAt ns p place n → None ≡ parent_at ns n → X
no_place ns p place n sound k e = absurd (none-some p (e ∙ placed_parent ns p place n sound k))
