-- The entries of a list that was built.
use Rattle.std.proofs.Common.{◌≡◌, ℕ, List, [], ◌∷◌, length, get_or, map, Option, refl, sym, ap, ◌∙◌, arith}
use Rattle.std.specs.Prelude.{slice_index}
use Rattle.leaf_trees.specs.declared.node.Flags.{Flags}
use Rattle.leaf_trees.specs.declared.node.Node.{Node}
use Rattle.leaf_trees.specs.Tree.{Item, Tree, leaves, flags_of}
use Rattle.leaf_trees.specs.Change.{Makes}
use Rattle.child_trees.specs.declared.leaf.Leaf.{Leaf}
use Rattle.child_trees.specs.Cells.{CellMaps}
use Rattle.child_trees.specs.Lists.{Entry, entry, AreEntries, AreNew, map_by}
use Rattle.child_trees.specs.Lists as lists
use Rattle.child_trees.specs.Sums.{entry_of, entries}
use Rattle.child_trees.specs.Kept.{AreOfFree, AreKept}
use Rattle.child_trees.specs.Tops.{Top, Writes}
use Rattle.child_trees.proofs.Along.{length-entries}
use Rattle.child_trees.proofs.Keeping.{item_has, items_once}
use Rattle.child_trees.proofs.Viewing.{seen, free_absent}

-- what a leaf counts as
abbrev pub flags : {Letter : Type 0} → Leaf Letter → Flags
flags l = record { element = l.element; marked = l.marked }

head_is : {A : Type 0} (x y : A) (xs ys : List A) → x ∷ xs ≡ y ∷ ys → x ≡ y
head_is x y xs ys e = cc

tail_is : {A : Type 0} (x y : A) (xs ys : List A) → x ∷ xs ≡ y ∷ ys → xs ≡ ys
tail_is x y xs ys e = cc

-- entries with the flags and the maps of leaves are theirs
pub are_entries : {Letter Map : Type 0} (unit : Map) (leaf_map : Letter → Map) (f : ℕ → Map) (ls : List (Leaf Letter)) (ys : List Item) → map flags_of ys ≡ map flags ls → map (λ (x : Item). f x.number) ys ≡ map (λ (l : Leaf Letter). map_by unit leaf_map l.letter) ls → AreEntries unit leaf_map ls (map (entry_of f) ys)
are_entries unit leaf_map f [] [] e m = tt
are_entries unit leaf_map f [] (y ∷ ys) e m = absurd (omega (arith, ap length e))
are_entries unit leaf_map f (l ∷ ls) [] e m = absurd (omega (arith, ap length e))
are_entries unit leaf_map f (l ∷ ls) (y ∷ ys) e m =
    let a = head_is (flags_of y) (flags l) (map flags_of ys) (map flags ls) e in
    let b = head_is (f y.number) (map_by unit leaf_map l.letter) (map (λ x. f x.number) ys) (map (λ l. map_by unit leaf_map l.letter) ls) m in (
      (λ k. record { item = y.number; element = (a k).element; marked = (a k).marked; act = b k }),
      are_entries unit leaf_map f ls ys (tail_is (flags_of y) (flags l) (map flags_of ys) (map flags ls) e) (tail_is (f y.number) (map_by unit leaf_map l.letter) (map (λ x. f x.number) ys) (map (λ l. map_by unit leaf_map l.letter) ls) m),
    )

numbers_are : {Map : Type 0} (f : ℕ → Map) (xs : List Item) → map (λ (e : Entry Map). e.item) (map (entry_of f) xs) ≡ map (λ (x : Item). x.number) xs
numbers_are f [] = refl
numbers_are f (x ∷ xs) = ap (λ ys. x.number ∷ ys) (numbers_are f xs)

-- the items of a new tree were free, and differ
pub are_of_free : {Map : Type 0} (f : ℕ → Map) (ns ms : List Node) (list top : ℕ) (t : Tree) → Makes ns ms list top t → AreOfFree ns (entries f t)
are_of_free f ns ms list top t m = record {
  free = λ p l. (let e = ap (λ ys. slice_index ys p) (numbers_are f (leaves t)) in m.slots (slice_index (lists.items (entries f t)) p) (item_has t p (slice_index (lists.items (entries f t)) p) (omega (arith, l, length-entries f t)) (sym e)));
  once = λ p k lp lk e. items_once t p k m.tree.has.apart (omega (arith, lp, length-entries f t)) (omega (arith, lk, length-entries f t)) (sym (ap (λ ys. slice_index ys p) (numbers_are f (leaves t))) ∙ e ∙ ap (λ ys. slice_index ys k) (numbers_are f (leaves t)));
}

pub one_list : {A : Type 0} (xs : List A) (x : A) → length xs ≡ 1 → x ≡ get_or xs 0 x → xs ≡ x ∷ []
one_list [] x e is = absurd (omega arith)
one_list (y ∷ []) x e is = ap (λ z. z ∷ []) (sym is)
one_list (y ∷ (z ∷ zs)) x e is = absurd (omega arith)

-- free slots are no items of a list
pub are_new : {Shape Map : Type 0} (unit : Shape → Map) (join : Map → Map → Map) (v : CellMaps Shape Map) (ns : List Node) (tops : List (Option Top)) (xs : List (Entry Map)) → AreKept unit join v ns tops → AreOfFree ns xs → AreNew (seen unit v ns tops) xs
are_new unit join v ns tops xs a f = record {
  absent = λ p l. free_absent unit join v ns tops a (slice_index (lists.items xs) p) (f.free p l);
  once = f.once;
}

-- one write of a number's top after another
pub writes_then : (a b c : List (Option Top)) (q : ℕ) (x y : Option Top) → Writes a b q x → Writes b c q y → Writes a c q y
writes_then a b c q x y one two = record { changed = two.changed; others = λ p n. two.others p n ∙ one.others p n }
