-- Parents and child elements of nodes.
use Rattle.std.proofs.Common.{◌≡◌, ◌<◌, ℕ, Bool, true, false, cond, List, [], ◌∷◌, Option, None, Some, inl, inr, refl, sym, ap, ◌∙◌, arith}
use Rattle.std.specs.Prelude.{filter}
use Rattle.std.specs.Option.{option_and_then}
use Rattle.doc_nodes.specs.Nodes.{Node, Nodes, IsSound, Has, node, depth_by, children_by, is_element_at, element_children}
use Rattle.doc_changes.specs.Held.{parent_at}
use Rattle.child_lists.proofs.from_kept_forgetting.Placed.{parent-has}

filter-parts : (f : ℕ → Bool) (x : ℕ) (xs : List ℕ) → Has x (filter f xs) → Has x xs × (f x ≡ true)
filter-parts f x [] h = absurd h
filter-parts f x (y ∷ ys) h = by (f y) refl h (λ k. filter-parts f x ys k)
  where
    by : (b : Bool) → f y ≡ b → Has x (cond b (y ∷ filter f ys) (filter f ys)) → (Has x (filter f ys) → Has x ys × (f x ≡ true)) → Has x (y ∷ ys) × (f x ≡ true)
    by true e has on = elim has [ inl same ↦ (inl same, ap f (sym same) ∙ e) | inr k ↦ let r = on k in (inr r.0, r.1) ]
    by false e has on = let r = on has in (inr r.0, r.1)

module _ (ns : Nodes) (sound : IsSound ns) where
  -- a child element has its parent, and is an element
  pub child-up : (n x : ℕ) → Has x (element_children ns n) → (parent_at ns x ≡ Some n) × (is_element_at ns x ≡ true)
  child-up n x h = let parts = filter-parts (is_element_at ns) x (children_by (node ns n)) h in (by (node ns n) refl parts.0, parts.1)
    where
      by : (o : Option Node) → node ns n ≡ o → Has x (children_by o) → parent_at ns x ≡ Some n
      by (Some it) e has = let child = sound.down n x it e has in ap (option_and_then (λ (own : Node). own.parent)) child.is ∙ child.parent
      by None e has = absurd has

  -- a parent is at a lesser depth
  pub parent-lower : (n p : ℕ) → parent_at ns n ≡ Some p → depth_by (node ns p) < depth_by (node ns n)
  parent-lower n p up =
      let above = parent-has ns sound n p up in
      let child = sound.down p n above.0 above.1 above.2 in
      let here = ap depth_by above.1 in
      let there = ap depth_by child.is in
      let below = child.below in
      omega (arith, here, there, below)
