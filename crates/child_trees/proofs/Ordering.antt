-- The items of a tree, and the map of an item's leaf.
use Rattle.std.proofs.Common.{◌≡◌, ℕ, zero, suc, List, [], ◌∷◌, ◌++◌, map, Some, sym, ap, ◌∙◌, arith, append_assoc}
use Rattle.std.specs.Prelude.{slice_get, slice_index}
use Rattle.std.proofs.lemmas.List.{map-append}
use Rattle.std.proofs.lemmas.Option.{same_Some, none-some}
use Rattle.leaf_trees.specs.declared.node.Node.{Node}
use Rattle.leaf_trees.specs.Tree.{Item, Tree, leaf, fork, leaves, items}
use Rattle.leaf_trees.specs.Arena.{at, HasTree}
use Rattle.leaf_trees.proofs.Parts.{top_height}
use Rattle.child_trees.specs.Lists.{Entry}
use Rattle.child_trees.specs.Sums.{entry_of}

-- a leaf has one item
pub leaf_items : (ns : List Node) (top : ℕ) (t : Tree) → HasTree ns top t → (at ns top).height ≡ 0 → items t ≡ top ∷ []
leaf_items ns top (leaf x) h e = ap (λ k. k ∷ []) h.top_is
leaf_items ns top (fork i l r) h e = let high = top_height ns top (fork i l r) h in absurd (omega (arith, e, high))

-- a fork has those of its sides
pub fork_items : (old mid new : List ℕ) (t : Tree) (i : ℕ) (l r : Tree) → t ≡ fork i l r → mid ≡ old ++ items l → new ≡ mid ++ items r → new ≡ old ++ items t
fork_items old mid new t i l r is a b =
    b ∙ ap (λ xs. xs ++ items r) a ∙ append_assoc old (items l) (items r) ∙ ap (λ xs. old ++ xs) (sym (map-append (λ x. x.number) (leaves l) (leaves r))) ∙ ap (λ x. old ++ items x) (sym is)

-- the map of an entry is that of its item
pub act_at : {Map : Type 0} (f : ℕ → Map) (xs : List Item) (p item : ℕ) (e : Entry Map) → slice_get (map (entry_of f) xs) p ≡ Some e → slice_index (map (λ e. e.item) (map (entry_of f) xs)) p ≡ item → e.act ≡ f item
act_at f [] p item e g i = absurd (none-some e g)
act_at f (x ∷ xs) zero item e g i = ap (λ y. y.act) (sym (same_Some (entry_of f x) e g)) ∙ ap f i
act_at f (x ∷ xs) (suc p) item e g i = act_at f xs p item e g i

pub act_is : {Map : Type 0} (f : ℕ → Map) (xs : List Item) (es : List (Entry Map)) (p item : ℕ) (e : Entry Map) → map (entry_of f) xs ≡ es → slice_get es p ≡ Some e → slice_index (map (λ e. e.item) es) p ≡ item → e.act ≡ f item
act_is f xs es p item e are g i = act_at f xs p item e (ap (λ ys. slice_get ys p) are ∙ g) (ap (λ ys. slice_index (map (λ e. e.item) ys) p) are ∙ i)
