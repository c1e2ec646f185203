-- What the readers of a list find.
use Rattle.std.proofs.Common.{◌≡◌, ℕ, zero, suc, ◌<◌, ◌≤◌, true, false, cond, List, [], ◌∷◌, length, take, drop, map, filter, insert, Option, Some, None, refl, sym, ap, ◌∙◌, arith}
use Rattle.std.specs.Prelude.{slice_get, slice_index}
use Rattle.std.proofs.lemmas.List.{take-map, length-take, drop_all}
use Rattle.leaf_trees.specs.declared.node.Node.{Node}
use Rattle.leaf_trees.specs.Tree.{Item, Tree, leaves, elements_before}
use Rattle.child_trees.specs.Cells.{CellMaps}
use Rattle.child_trees.specs.Lists.{Entry, Lists, get, acts_along}
use Rattle.child_trees.specs.Lists as lists
use Rattle.child_trees.specs.Sums.{entry_of, entries}
use Rattle.child_trees.specs.Tops.{Top, top_at}
use Rattle.child_trees.proofs.Viewing.{seen, get_top}

pub get_some : (xs : List ℕ) (p : ℕ) → p < length xs → slice_get xs p ≡ Some (slice_index xs p)
get_some [] p l = absurd (omega arith)
get_some (x ∷ xs) zero l = refl
get_some (x ∷ xs) (suc p) l = get_some xs p (omega arith)

pub get_none : (xs : List ℕ) (p : ℕ) → length xs ≤ p → slice_get xs p ≡ None
get_none [] p l = refl
get_none (x ∷ xs) zero l = absurd (omega arith)
get_none (x ∷ xs) (suc p) l = get_none xs p (omega arith)

-- a list with no top is empty
pub no_top : {Shape Map : Type 0} (unit : Shape → Map) (join : Map → Map → Map) (v : CellMaps Shape Map) (ns : List Node) (tops : List (Option Top)) (q : ℕ) (xs : List (Entry Map)) → top_at tops q ≡ Some None → get (seen unit v ns tops) q ≡ Some xs → xs ≡ []
no_top {Map = Map} unit join v ns tops q xs e g = same xs [] (sym g ∙ get_top unit join v ns tops q None e)
  where
    same : (ys zs : List (Entry Map)) → Some ys ≡ Some zs → ys ≡ zs
    same ys zs z = cc

pub along_none : {Map State : Type 0} (acts : Map → State → State) (s : State) (from to : ℕ) (xs : List (Entry Map)) → xs ≡ [] → s ≡ acts_along acts s (drop from (take to xs))
along_none acts s from to xs e = sym (ap (acts_along acts s) (drop_all from (take to xs) (omega (arith, ap length e, length-take to xs))))

-- the marked leaves, by their entries
pub marked_are : {Map : Type 0} (f : ℕ → Map) (xs : List Item) → lists.items (filter (λ e. e.marked) (map (entry_of f) xs)) ≡ map (λ x. x.number) (filter (λ x. x.marked) xs)
marked_are f [] = refl
marked_are f (x ∷ xs) =
    let rest = marked_are f xs in
    elim x.marked as (λ b. lists.items (cond b (entry_of f x ∷ filter (λ e. e.marked) (map (entry_of f) xs)) (filter (λ e. e.marked) (map (entry_of f) xs))) ≡ map (λ x. x.number) (cond b (x ∷ filter (λ x. x.marked) xs) (filter (λ x. x.marked) xs))) [
      | true ↦ ap (λ ys. x.number ∷ ys) rest
      | false ↦ rest
    ]

-- the leaves that are elements
elements_are : {Map : Type 0} (f : ℕ → Map) (xs : List Item) → length (filter (λ e. e.element) (map (entry_of f) xs)) ≡ length (filter (λ x. x.element) xs)
elements_are f [] = refl
elements_are f (x ∷ xs) =
    let rest = elements_are f xs in
    elim x.element as (λ b. length (cond b (entry_of f x ∷ filter (λ e. e.element) (map (entry_of f) xs)) (filter (λ e. e.element) (map (entry_of f) xs))) ≡ length (cond b (x ∷ filter (λ x. x.element) xs) (filter (λ x. x.element) xs))) [
      | true ↦ ap suc rest
      | false ↦ rest
    ]

pub elements_upto_are : {Map : Type 0} (f : ℕ → Map) (t : Tree) (place : ℕ) (xs : List (Entry Map)) → entries f t ≡ xs → elements_before t place ≡ length (filter (λ e. e.element) (take place xs))
elements_upto_are f t place xs e =
    sym (elements_are f (take place (leaves t))) ∙ ap (λ ys. length (filter (λ e. e.element) ys)) (sym (take-map (entry_of f) place (leaves t))) ∙ ap (λ ys. length (filter (λ e. e.element) (take place ys))) e

pub no_elements : {Map : Type 0} (place : ℕ) (xs : List (Entry Map)) → xs ≡ [] → 0 ≡ length (filter (λ (e : Entry Map). e.element) (take place xs))
no_elements zero xs e = refl
no_elements (suc place) xs e = sym (ap (λ ys. length (filter (λ e. e.element) (take (suc place) ys))) e)

-- the first leaf of a list
pub insert_none : {A : Type 0} (xs : List A) (place : ℕ) (x : A) → xs ≡ [] → place ≤ 0 → x ∷ [] ≡ insert xs place x
insert_none xs zero x e le = ap (λ ys. x ∷ ys) (sym e)
insert_none xs (suc place) x e le = absurd (omega arith)
