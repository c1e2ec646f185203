-- The trees of lists with their sums, before and after a change of one.
use Rattle.std.proofs.Common.{◌≡◌, ◌≢◌, ℕ, zero, suc, ◌+◌, ◌-◌, ◌*◌, ◌^◌, ◌<◌, ◌≤◌, List, [], ◌∷◌, ◌++◌, length, set, take, drop, map, insert, remove, refl, sym, ap, ◌∙◌, subst, inl, inr, arith}
use Rattle.std.specs.Prelude.{nat_lt, MatchBool, slice_index}
use Rattle.std.proofs.lemmas.Bool.{cases_lt}
use Rattle.std.proofs.lemmas.List.{map-append, length-map, take-map, drop-map, map-set, set-append_left, set-append_right, get_or_append_left, get_or-append_right, length-set, get_or-set_same, nil_from_length}
use Rattle.std.proofs.lemmas.List.Edits.{length-insert, length-remove, get_or-insert_at}
use Rattle.leaf_trees.specs.declared.node.Node.{Node}
use Rattle.leaf_trees.specs.declared.node.Flags.{Flags}
use Rattle.leaf_trees.specs.Tree.{Item, Tree, leaf, fork, size, height, leaves, items, item_of, Has, Apart, IsPart}
use Rattle.leaf_trees.specs.Balance.{HasOldSides, ChangesAlong}
use Rattle.leaf_trees.specs.Arena.{at, Holds, IsTaken, IsTreeOf, IsFreeSlot}
use Rattle.leaf_trees.specs.Change.{Changes}
use Rattle.leaf_trees.proofs.Balanced.{length-leaves}
use Rattle.leaf_trees.proofs.Forest.{has_within, has_taken, trees_apart}
use Rattle.leaf_trees.proofs.Height.{height_bound}
use Rattle.child_trees.specs.Cells.{CellMaps, map_at}
use Rattle.child_trees.specs.declared.leaf.Leaf.{Leaf}
use Rattle.child_trees.specs.Lists.{Entry, entry, map_by}
use Rattle.child_trees.specs.Sums.{entry_of, entries, IsForkIn, AreSums, AreSidesSums, AreSumsBut, HasCells, KeepsMaps}
use Rattle.child_trees.specs.Kept.{IsKept, HasList, KeepsLists}
use Rattle.child_trees.proofs.Along.{entries-fork, length-entries}
use Rattle.child_trees.proofs.Summing.{fork_has, sums_stay, sides_stay, of_test, lt_true, lt_false}

-- edits of a list of images
pub map-insert : {A B : Type 0} (f : A → B) (xs : List A) (i : ℕ) (x : A) → map f (insert xs i x) ≡ insert (map f xs) i (f x)
map-insert f xs i x = map-append f (take i xs) (x ∷ drop i xs) ∙ (λ k. sym (take-map f i xs) k ++ f x ∷ sym (drop-map f i xs) k)

pub map-remove : {A B : Type 0} (f : A → B) (xs : List A) (i : ℕ) → map f (remove xs i) ≡ remove (map f xs) i
map-remove f xs i = map-append f (take i xs) (drop (suc i) xs) ∙ (λ k. sym (take-map f i xs) k ++ sym (drop-map f (suc i) xs) k)

-- entries stay where the maps of the tree's nodes do
pub entries_stay : {Map : Type 0} (f g : ℕ → Map) (t : Tree) → ((j : ℕ) → Has t j → g j ≡ f j) → entries g t ≡ entries f t
entries_stay f g (leaf x) same = (λ k. record { item = x.number; element = x.element; marked = x.marked; act = same x.number refl k } ∷ [])
entries_stay f g (fork i l r) same =
    let a = entries_stay f g l (λ j h. same j (inr (inl h))) in
    let b = entries_stay f g r (λ j h. same j (inr (inr h))) in
    entries-fork g i l r ∙ (λ k. a k ++ b k) ∙ sym (entries-fork f i l r)

-- or where the maps of leaves do
pub entries_low : {Map : Type 0} (f g : ℕ → Map) (ns : List Node) (t : Tree) → Holds ns t → ((j : ℕ) → (at ns j).height ≡ 0 → g j ≡ f j) → entries g t ≡ entries f t
entries_low f g ns (leaf x) h same = (λ k. record { item = x.number; element = x.element; marked = x.marked; act = same x.number h.height_is k } ∷ [])
entries_low f g ns (fork i l r) h same =
    let a = entries_low f g ns l h.1 same in
    let b = entries_low f g ns r h.2 same in
    entries-fork g i l r ∙ (λ k. a k ++ b k) ∙ sym (entries-fork f i l r)

pub fork_high : (ns : List Node) (t : Tree) (j : ℕ) → Holds ns t → IsForkIn t j → 0 < (at ns j).height
fork_high ns (leaf x) j h k = absurd k
fork_high ns (fork i l r) j h (inl e) = subst (λ m. 0 < (at ns m).height) (sym e) (let q = h.0.height_is in omega arith)
fork_high ns (fork i l r) j h (inr (inl k)) = fork_high ns l j h.1 k
fork_high ns (fork i l r) j h (inr (inr k)) = fork_high ns r j h.2 k

pub low_no_fork : (ns : List Node) (t : Tree) (j : ℕ) → Holds ns t → (at ns j).height ≡ 0 → ¬ IsForkIn t j
low_no_fork ns t j h e k = let p = fork_high ns t j h k in absurd (omega (arith, p, e))

-- the item at a place is a node
pub item_has : (t : Tree) (k item : ℕ) → k < size t → slice_index (items t) k ≡ item → Has t item
item_has (leaf x) zero item l e = sym e
item_has (leaf x) (suc k) item l e = absurd (omega arith)
item_has (fork i l r) k item w e =
    let n : length (items l) ≡ size l = length-map (leaves l) (λ x. x.number) ∙ length-leaves l in
    let m = map-append (λ (x : Item). x.number) (leaves l) (leaves r) in
    let is = sym (ap (λ xs. slice_index xs k) m) ∙ e in
    elim (cases_lt k (size l)) [
      | inl lt ↦ inr (inl (item_has l k item lt (sym (get_or_append_left (items l) (items r) 0 k (omega (arith, lt, n))) ∙ is)))
      | inr ge ↦ inr (inr (item_has r (k - size l) item (omega (arith, w, ge)) (sym (get_or-append_right (items l) (items r) (size l) k 0 n ge) ∙ is)))
    ]

-- the item of a place, on the side that the place is on
pub item_left : (l r : Tree) (k item : ℕ) → k < size l → slice_index (map (λ (x : Item). x.number) (leaves l ++ leaves r)) k ≡ item → slice_index (items l) k ≡ item
item_left l r k item lt e =
    let n : length (items l) ≡ size l = length-map (leaves l) (λ x. x.number) ∙ length-leaves l in
    sym (get_or_append_left (items l) (items r) 0 k (omega (arith, lt, n))) ∙ sym (ap (λ xs. slice_index xs k) (map-append (λ (x : Item). x.number) (leaves l) (leaves r))) ∙ e

pub item_right : (l r : Tree) (k item : ℕ) → size l ≤ k → slice_index (map (λ (x : Item). x.number) (leaves l ++ leaves r)) k ≡ item → slice_index (items r) (k - size l) ≡ item
item_right l r k item ge e =
    let n : length (items l) ≡ size l = length-map (leaves l) (λ x. x.number) ∙ length-leaves l in
    sym (get_or-append_right (items l) (items r) (size l) k 0 n ge) ∙ sym (ap (λ xs. slice_index xs k) (map-append (λ (x : Item). x.number) (leaves l) (leaves r))) ∙ e

module _ {Map : Type 0} (join : Map → Map → Map) (f : ℕ → Map) where
  -- parts of a tree of sums are trees of sums
  part_sums : (was t : Tree) → AreSums join f was → IsPart was t → AreSums join f t
  part_sums (leaf x) t s e = subst (AreSums join f) (sym e) s
  part_sums (fork i l r) t s (inl e) = subst (AreSums join f) (sym e) s
  part_sums (fork i l r) t s (inr (inl p)) = part_sums l t s.1 p
  part_sums (fork i l r) t s (inr (inr p)) = part_sums r t s.2 p

  old_sums : (was t : Tree) → AreSums join f was → HasOldSides was t → AreSidesSums join f t
  old_sums was (leaf x) s h = tt
  old_sums was (fork i l r) s h = (part_sums was l s h.0, part_sums was r s h.1)

  -- what changed along a way down leaves all other sums right
  pub along_sums : (was : Tree) (k : ℕ) (t : Tree) → AreSums join f was → ChangesAlong was k t → AreSumsBut join f k t
  along_sums was k (leaf x) s c = tt
  along_sums was k (fork i l r) s c =
      of_test (nat_lt k (size l))
      (λ h. (along_sums was k l s h.0, old_sums was r s h.1))
      (λ h. (old_sums was l s h.0, along_sums was (k - size l) r s h.1))
      c

  -- so does another map at the leaf
  pub leaf_sums : (g : ℕ → Map) (k : ℕ) (t : Tree) (item : ℕ) → Apart t → k < size t → slice_index (items t) k ≡ item → ((j : ℕ) → j ≢ item → g j ≡ f j) → AreSumsBut join f k t → AreSumsBut join g k t
  leaf_sums g k (leaf x) item a w e same s = tt
  leaf_sums g k (fork i l r) item a w e same s =
      elim (cases_lt k (size l)) [
        | inl lt ↦
            let is = item_left l r k item lt e in
            let here = item_has l k item lt is in
            let t = lt_true k (size l) lt in
            let was = subst (λ b. MatchBool b (AreSumsBut join f k l × AreSidesSums join f r) (AreSidesSums join f l × AreSumsBut join f (k - size l) r)) t s in
            subst (λ b. MatchBool b (AreSumsBut join g k l × AreSidesSums join g r) (AreSidesSums join g l × AreSumsBut join g (k - size l) r)) (sym t)
            (leaf_sums g k l item a.3 lt is same was.0, sides_stay join f g r (λ j h. same j (λ q. a.2.apart item here (subst (Has r) q h))) was.1)
        | inr ge ↦
            let is = item_right l r k item ge e in
            let few : k - size l < size r = omega (arith, w, ge) in
            let here = item_has r (k - size l) item few is in
            let t = lt_false k (size l) ge in
            let was = subst (λ b. MatchBool b (AreSumsBut join f k l × AreSidesSums join f r) (AreSidesSums join f l × AreSumsBut join f (k - size l) r)) t s in
            subst (λ b. MatchBool b (AreSumsBut join g k l × AreSidesSums join g r) (AreSidesSums join g l × AreSumsBut join g (k - size l) r)) (sym t)
            (sides_stay join f g l (λ j h. same j (λ q. a.2.apart item (subst (Has l) q h) here)) was.0, leaf_sums g (k - size l) r item a.4 few is same was.1)
      ]

-- an entry written over the one whose map changed
pub write_entries : {Map : Type 0} (f g : ℕ → Map) (k : ℕ) (t : Tree) (item : ℕ) (e : Entry Map) → Apart t → k < size t → slice_index (items t) k ≡ item → ((j : ℕ) → j ≢ item → g j ≡ f j) → set (entries g t) k e ≡ set (entries f t) k e
write_entries f g zero (leaf x) item e a w is same = refl
write_entries f g (suc k) (leaf x) item e a w is same = absurd (omega arith)
write_entries f g k (fork i l r) item e a w is same =
    elim (cases_lt k (size l)) [
      | inl lt ↦
          let here = item_left l r k item lt is in
          let has = item_has l k item lt here in
          let p = write_entries f g k l item e a.3 lt here same in
          let q = entries_stay f g r (λ j h. same j (λ z. a.2.apart item has (subst (Has r) z h))) in
          ap (λ xs. set xs k e) (entries-fork g i l r) ∙ set-append_left (entries g l) (entries g r) k e (omega (arith, lt, length-entries g l))
          ∙ (λ z. p z ++ q z)
          ∙ sym (ap (λ xs. set xs k e) (entries-fork f i l r) ∙ set-append_left (entries f l) (entries f r) k e (omega (arith, lt, length-entries f l)))
      | inr ge ↦
          let here = item_right l r k item ge is in
          let few : k - size l < size r = omega (arith, w, ge) in
          let has = item_has r (k - size l) item few here in
          let p = entries_stay f g l (λ j h. same j (λ z. a.2.apart item (subst (Has l) z h) has)) in
          let q = write_entries f g (k - size l) r item e a.4 few here same in
          ap (λ xs. set xs k e) (entries-fork g i l r) ∙ set-append_right (entries g l) (entries g r) (size l) k e (length-entries g l) ge
          ∙ (λ z. p z ++ q z)
          ∙ sym (ap (λ xs. set xs k e) (entries-fork f i l r) ∙ set-append_right (entries f l) (entries f r) (size l) k e (length-entries f l) ge)
    ]

module _ {Shape Map : Type 0} (unit : Shape → Map) (join : Map → Map → Map) where
  -- a tree whose nodes and maps stay
  pub kept_stays : (v w : CellMaps Shape Map) (ns ms : List Node) (p b : ℕ) (u : Tree) → IsKept unit join v ns p b u → IsTreeOf ms p b u → length v.maps ≤ length w.maps → ((j : ℕ) → Has u j → map_at unit w j ≡ map_at unit v j) → IsKept unit join w ms p b u
  kept_stays v w ns ms p b u k tree le same = record {
    tree = tree;
    within = λ j h. (let q = k.within j h in omega (arith, q, le));
    sums = sums_stay join (map_at unit v) (map_at unit w) u same k.sums;
  }

  -- all lists stay where all trees and all their maps do
  pub all_stay : (v w : CellMaps Shape Map) (ns ms : List Node) → ((p b : ℕ) (u : Tree) → IsTreeOf ns p b u → IsTreeOf ms p b u) → length v.maps ≤ length w.maps → ((p b : ℕ) (u : Tree) (j : ℕ) → IsKept unit join v ns p b u → Has u j → map_at unit w j ≡ map_at unit v j) → w.shape ≡ v.shape → KeepsLists unit join v ns w ms (λ _. ⊥)
  all_stay v w ns ms trees le same h = record {
    kept = λ p b u n k. kept_stays v w ns ms p b u k (trees p b u k.tree) le (λ j q. same p b u j k q);
    same = λ p b u n k. entries_stay (map_at unit v) (map_at unit w) u (λ j q. same p b u j k q);
    shape = h;
  }

  -- the nodes of a kept tree were no free slots
  pub kept_not_free : (v : CellMaps Shape Map) (ns : List Node) (p b : ℕ) (u : Tree) (j item : ℕ) → IsKept unit join v ns p b u → IsFreeSlot ns item → Has u j → j ≢ item
  kept_not_free v ns p b u j item k free h e = free.free (subst (λ i. IsTaken (at ns i)) e (has_taken ns p b u k.tree j h))

  -- the tree of one list changed, its maps with it, and its sums were made anew
  module _ (ns ms : List Node) (v v1 v2 : CellMaps Shape Map) (list top place : ℕ) (t : Tree) (xs : List Item) (ch : Changes ns ms list t top place xs) (room : length ms ≤ length v1.maps) where
    pub now_cells : HasCells (length v1.maps) ms top ch.now
    now_cells = record { has = ch.tree.has; within = λ j h. (let q = has_within ms ch.now ch.tree.has.holds j h in omega (arith, q, room)) }

    module _ (size : length v2.maps ≡ length v1.maps) (km : KeepsMaps unit v1 v2 ch.now) where
      pub list_made : AreSums join (map_at unit v2) ch.now → HasList unit join v2 ms list top (map (entry_of (map_at unit v1)) xs)
      list_made sums = record {
        now = ch.now;
        kept = record { tree = ch.tree; within = λ j h. (let q = now_cells.within j h in omega (arith, q, size)); sums = sums };
        entries_are = entries_low (map_at unit v1) (map_at unit v2) ms ch.now ch.tree.has.holds (λ j e. km.same j (low_no_fork ms ch.now j ch.tree.has.holds e)) ∙ ap (map (entry_of (map_at unit v1))) ch.leaves_are;
      }

      pub others_stay : length v.maps ≡ length v1.maps → v2.shape ≡ v.shape → ((j : ℕ) → ¬ Has ch.now j → map_at unit v1 j ≡ map_at unit v j) → KeepsLists unit join v ns v2 ms (λ p. p ≡ list)
      others_stay e h same = record {
        kept = λ p b u n k. kept_stays v v2 ns ms p b u k (ch.others p b u n k.tree) (omega (arith, e, size)) (maps p b u n k);
        same = λ p b u n k. entries_stay (map_at unit v) (map_at unit v2) u (maps p b u n k);
        shape = h;
      }
        where
          maps : (p b : ℕ) (u : Tree) → p ≢ list → IsKept unit join v ns p b u → (j : ℕ) → Has u j → map_at unit v2 j ≡ map_at unit v j
          maps p b u n k j q =
              let apart = trees_apart ms p list b top u ch.now (ch.others p b u n k.tree) ch.tree n in
              km.same j (λ w. apart.apart j q (fork_has ch.now j w)) ∙ same j (λ w. apart.apart j q w)

    pub now_low : (k : ℕ) → length xs < 2 ^ k → height ch.now < 2 * k
    now_low k few = height_bound k ch.now ch.tree.avl (let e = sym (length-leaves ch.now) ∙ ap length ch.leaves_are in subst (λ n. n < 2 ^ k) (sym e) few)

-- where the new item is
pub inserted_at : (t now : Tree) (k : ℕ) (x : Item) → leaves now ≡ insert (leaves t) k x → k ≤ size t → slice_index (items now) k ≡ x.number
inserted_at t now k x e le =
    ap (λ ys. slice_index (map (λ y. y.number) ys) k) e ∙ ap (λ ys. slice_index ys k) (map-insert (λ (y : Item). y.number) (leaves t) k x)
    ∙ get_or-insert_at (items t) k x.number 0 (let n = length-map (leaves t) (λ (y : Item). y.number) in let m = length-leaves t in omega arith)

pub inserted_size : (t now : Tree) (k : ℕ) (x : Item) → leaves now ≡ insert (leaves t) k x → k ≤ size t → size now ≡ size t + 1
inserted_size t now k x e le =
    let m = length-leaves t in
    let n = length-insert (leaves t) k x (omega arith) in
    omega (arith, sym (length-leaves now), ap length e, n, m)

pub written_at : (t now : Tree) (k : ℕ) (x : Item) → leaves now ≡ set (leaves t) k x → k < size t → slice_index (items now) k ≡ x.number
written_at t now k x e lt =
    ap (λ ys. slice_index (map (λ y. y.number) ys) k) e ∙ ap (λ ys. slice_index ys k) (map-set (λ (y : Item). y.number) (leaves t) k x)
    ∙ get_or-set_same (items t) k x.number 0 (let n = length-map (leaves t) (λ (y : Item). y.number) in let m = length-leaves t in omega arith)

pub written_size : (t now : Tree) (k : ℕ) (x : Item) → leaves now ≡ set (leaves t) k x → size now ≡ size t
written_size t now k x e = sym (length-leaves now) ∙ ap length e ∙ length-set (leaves t) k x ∙ length-leaves t

pub removed_size : (t now : Tree) (k : ℕ) → leaves now ≡ remove (leaves t) k → k < size t → size now + 1 ≡ size t
removed_size t now k e lt =
    let m = length-leaves t in
    let n = length-remove (leaves t) k (omega arith) in
    omega (arith, sym (length-leaves now), ap length e, n, m)

-- one entry taken out of one
pub removed_all : {A : Type 0} (xs : List A) (k : ℕ) → length xs ≡ 1 → k < length xs → remove xs k ≡ []
removed_all xs k e l = nil_from_length (remove xs k) (let n = length-remove xs k l in omega arith)

-- the entry of a leaf with these flags and this map
pub entry_is : {Letter Map : Type 0} (unit : Map) (leaf_map : Letter → Map) (f : ℕ → Map) (item : ℕ) (l : Leaf Letter) (flags : Flags) → flags ≡ record { element = l.element; marked = l.marked } → f item ≡ map_by unit leaf_map l.letter → entry_of f (item_of item flags) ≡ entry unit leaf_map item l
entry_is unit leaf_map f item l flags e m = λ k. record { item = item; element = (e k).element; marked = (e k).marked; act = m k }

-- the maps of leaves stay where those of the tree's nodes do
pub leaves_stay : {Map : Type 0} (f g : ℕ → Map) (t : Tree) → ((j : ℕ) → Has t j → g j ≡ f j) → map (λ (x : Item). g x.number) (leaves t) ≡ map (λ (x : Item). f x.number) (leaves t)
leaves_stay f g (leaf x) same = ap (λ m. m ∷ []) (same x.number refl)
leaves_stay f g (fork i l r) same =
    let a = leaves_stay f g l (λ j h. same j (inr (inl h))) in
    let b = leaves_stay f g r (λ j h. same j (inr (inr h))) in
    map-append (λ (x : Item). g x.number) (leaves l) (leaves r) ∙ (λ k. a k ++ b k) ∙ sym (map-append (λ (x : Item). f x.number) (leaves l) (leaves r))

-- no item comes twice in a tree
pub items_once : (t : Tree) (p k : ℕ) → Apart t → p < size t → k < size t → slice_index (items t) p ≡ slice_index (items t) k → p ≡ k
items_once (leaf x) p k a lp lk e = omega arith
items_once (fork i l r) p k a lp lk e =
    let n : length (items l) ≡ size l = length-map (leaves l) (λ (x : Item). x.number) ∙ length-leaves l in
    elim (cases_lt p (size l)) [
      | inl pl ↦ elim (cases_lt k (size l)) [
        | inl kl ↦ items_once l p k a.3 pl kl (item_left l r p (slice_index (items (fork i l r)) p) pl refl ∙ e ∙ sym (item_left l r k (slice_index (items (fork i l r)) k) kl refl))
        | inr kr ↦
            let x = item_has l p (slice_index (items (fork i l r)) p) pl (item_left l r p (slice_index (items (fork i l r)) p) pl refl) in
            let y = item_has r (k - size l) (slice_index (items (fork i l r)) k) (omega (arith, lk, kr)) (item_right l r k (slice_index (items (fork i l r)) k) kr refl) in
            absurd (a.2.apart (slice_index (items (fork i l r)) p) x (subst (Has r) (sym e) y))
      ]
      | inr pr ↦ elim (cases_lt k (size l)) [
        | inl kl ↦
            let x = item_has r (p - size l) (slice_index (items (fork i l r)) p) (omega (arith, lp, pr)) (item_right l r p (slice_index (items (fork i l r)) p) pr refl) in
            let y = item_has l k (slice_index (items (fork i l r)) k) kl (item_left l r k (slice_index (items (fork i l r)) k) kl refl) in
            absurd (a.2.apart (slice_index (items (fork i l r)) k) y (subst (Has r) e x))
        | inr kr ↦
            let few_p : p - size l < size r = omega (arith, lp, pr) in
            let few_k : k - size l < size r = omega (arith, lk, kr) in
            let q = items_once r (p - size l) (k - size l) a.4 few_p few_k (item_right l r p (slice_index (items (fork i l r)) p) pr refl ∙ e ∙ sym (item_right l r k (slice_index (items (fork i l r)) k) kr refl)) in
            omega (arith, q, pr, kr)
      ]
    ]
