-- The lists that contracts see, and the trees that stand for them.
use Rattle.std.proofs.Common.{◌≡◌, ◌≢◌, ◌⊎◌, ℕ, zero, suc, ◌+◌, ◌<◌, ◌≤◌, Bool, true, false, cond, List, [], ◌∷◌, ◌++◌, length, get_or, map, Option, Some, None, refl, sym, ap, ◌∙◌, subst, inl, inr, arith}
use Rattle.std.specs.Prelude.{slice_index, sum_by, ◌==◌, MatchOption}
use Rattle.std.specs.Option.{option_map}
use Rattle.std.proofs.lemmas.Bool.{cases_eq}
use Rattle.std.proofs.lemmas.Bool.Decides.{nat_tests}
use Rattle.leaf_trees.specs.declared.node.Node.{Node}
use Rattle.leaf_trees.specs.Tree.{Item, Tree, leaf, fork, root, size, height, leaves, items, bit, IsItemAt}
use Rattle.leaf_trees.specs.Arena.{at, Holds, IsTreeOf, IsFreeSlot}
use Rattle.leaf_trees.proofs.Forest.{has_within}
use Rattle.leaf_trees.proofs.Held.{height_at}
use Rattle.child_trees.specs.Cells.{CellMaps, map_at}
use Rattle.child_trees.specs.Lists.{Entry, Lists, get, IsAt, LiesOnce, HasItem, Updates, IsLive, list_slots, slots_used}
use Rattle.child_trees.specs.Lists as lists
use Rattle.child_trees.specs.declared.find.Location.{Location}
use Rattle.child_trees.specs.Sums.{entry_of, entries, HasSums}
use Rattle.child_trees.specs.Tops.{Top, top_at, Writes, LiesIn}
use Rattle.child_trees.specs.Kept.{leaf_at, leaves_below, list_of, lists_of, IsKept, HasList, KeepsLists, AreKept, IsSound}
use Rattle.child_trees.proofs.Along.{length-entries}
use Rattle.child_trees.proofs.Keeping.{item_has, kept_not_free, kept_stays}

bit_is : (b : Bool) → (bit b == 1) ≡ b
bit_is true = refl
bit_is false = refl

eq_true : (n : ℕ) → n ≡ 0 → (n == 0) ≡ true
eq_true n e = ap (λ m. m == 0) e

eq_false : (n : ℕ) → 0 < n → (n == 0) ≡ false
eq_false n l = grind (arith, nat_tests)

-- the leaves found from the top are the tree's
pub leaves_below_is : (levels : ℕ) (ns : List Node) (t : Tree) → Holds ns t → height t < levels → leaves_below levels ns (root t) ≡ leaves t
leaves_below_is zero ns t h few = absurd (omega arith)
leaves_below_is (suc levels) ns (leaf x) h few =
    let low = eq_true (at ns x.number).height h.height_is in
    let e = ap (λ c. c.elements == 1) h.counts_are ∙ bit_is x.element in
    let m = ap (λ c. c.marked == 1) h.counts_are ∙ bit_is x.marked in
    ap (λ b. cond b (leaf_at ns x.number ∷ []) (leaves_below levels ns (at ns x.number).left ++ leaves_below levels ns (at ns x.number).right)) low
    ∙ (λ k. record { number = x.number; element = e k; marked = m k } ∷ [])
leaves_below_is (suc levels) ns (fork i l r) h few =
    let high = eq_false (at ns i).height (let q = h.0.height_is in omega arith) in
    let a = ap (leaves_below levels ns) h.0.left ∙ leaves_below_is levels ns l h.1 (omega arith) in
    let b = ap (leaves_below levels ns) h.0.right ∙ leaves_below_is levels ns r h.2 (omega arith) in
    ap (λ c. cond c (leaf_at ns i ∷ []) (leaves_below levels ns (at ns i).left ++ leaves_below levels ns (at ns i).right)) high
    ∙ (λ k. a k ++ b k)

module _ {Shape Map : Type 0} (unit : Shape → Map) (join : Map → Map → Map) where
  -- the list of a kept tree
  pub list_is : (v : CellMaps Shape Map) (ns : List Node) (q top : ℕ) (t : Tree) → IsKept unit join v ns q top t → list_of (map_at unit v) ns (Some top) ≡ entries (map_at unit v) t
  list_is v ns q top t k =
      let h = k.tree.has in
      let e = height_at ns t h.holds in
      ap (λ i. map (entry_of (map_at unit v)) (leaves_below ((at ns i).height + 1) ns i)) (sym h.top_is)
      ∙ ap (map (entry_of (map_at unit v))) (leaves_below_is ((at ns (root t)).height + 1) ns t h.holds (omega (arith, e)))

  -- a kept tree has sums
  pub kept_sums : (v : CellMaps Shape Map) (ns : List Node) (q top : ℕ) (t : Tree) → IsKept unit join v ns q top t → HasSums unit join v ns top t
  kept_sums v ns q top t k = record { cells = record { has = k.tree.has; within = k.within }; sums = k.sums }

-- what a contract sees
abbrev pub seen : {Shape Map : Type 0} → (Shape → Map) → CellMaps Shape Map → List Node → List (Option Top) → Lists Shape Map
seen unit v ns tops = record { shape = v.shape; lists = lists_of (map_at unit v) ns tops }

-- the list of a number
pub get_is : {Map : Type 0} (f : ℕ → Map) (ns : List Node) (tops : List (Option Top)) (q : ℕ) → get_or (lists_of f ns tops) q None ≡ option_map (list_of f ns) (top_at tops q)
get_is f ns [] q = refl
get_is f ns (x ∷ tops) zero = refl
get_is f ns (x ∷ tops) (suc q) = get_is f ns tops q

-- the top of a list that is live
pub top_some : {Map : Type 0} (f : ℕ → Map) (ns : List Node) (x : Option Top) (xs : List (Entry Map)) → option_map (list_of f ns) x ≡ Some xs → (top : Top) × (x ≡ Some top) × (list_of f ns top ≡ xs)
top_some {Map = Map} f ns None xs e = absurd (let z : None ≡ Some xs = e in no_some xs z)
  where
    no_some : (ys : List (Entry Map)) → None ≡ Some ys → ⊥
    no_some ys z = cc
top_some {Map = Map} f ns (Some top) xs e = (top, refl, some_is (list_of f ns top) xs e)
  where
    some_is : (ys zs : List (Entry Map)) → Some ys ≡ Some zs → ys ≡ zs
    some_is ys zs z = cc

module _ {Shape Map : Type 0} (unit : Shape → Map) (join : Map → Map → Map) (v : CellMaps Shape Map) (ns : List Node) (tops : List (Option Top)) where
  -- a live list has a top
  pub live_top : (q : ℕ) (xs : List (Entry Map)) → get (seen unit v ns tops) q ≡ Some xs → (top : Top) × (top_at tops q ≡ Some top) × (list_of (map_at unit v) ns top ≡ xs)
  live_top q xs e = top_some (map_at unit v) ns (top_at tops q) xs (sym (get_is (map_at unit v) ns tops q) ∙ e)

  pub get_top : (q : ℕ) (top : Top) → top_at tops q ≡ Some top → get (seen unit v ns tops) q ≡ Some (list_of (map_at unit v) ns top)
  get_top q top e = get_is (map_at unit v) ns tops q ∙ ap (option_map (list_of (map_at unit v) ns)) e

  -- the tree of a list with leaves
  pub record Rooted (q top : ℕ) (xs : List (Entry Map)) : Type 0 where
    pub tree : Tree
    pub kept : IsKept unit join v ns q top tree
    pub entries_are : entries (map_at unit v) tree ≡ xs
    pub size_is : size tree ≡ length xs

  pub rooted : AreKept unit join v ns tops → (q top : ℕ) (xs : List (Entry Map)) → top_at tops q ≡ Some (Some top) → get (seen unit v ns tops) q ≡ Some xs → Rooted q top xs
  rooted a q top xs e g =
      let k = a.kept q top e in
      let is = list_is unit join v ns q top k.0 k.1 in
      let same = some_same (entries (map_at unit v) k.0) xs (ap Some (sym is) ∙ sym (get_top q (Some top) e) ∙ g) in
      record { tree = k.0; kept = k.1; entries_are = same; size_is = sym (length-entries (map_at unit v) k.0) ∙ ap length same }
    where
      some_same : (ys zs : List (Entry Map)) → Some ys ≡ Some zs → ys ≡ zs
      some_same ys zs z = cc

  numbers_are : (f : ℕ → Map) (xs : List Item) → map (λ e. e.item) (map (entry_of f) xs) ≡ map (λ x. x.number) xs
  numbers_are f [] = refl
  numbers_are f (x ∷ xs) = ap (λ ys. x.number ∷ ys) (numbers_are f xs)

  -- the tree of a list with this item, and the item's place there
  pub record Found (item q p : ℕ) (xs : List (Entry Map)) : Type 0 where
    pub top : ℕ
    pub top_is : top_at tops q ≡ Some (Some top)
    pub rooted : Rooted q top xs
    pub place : IsItemAt rooted.tree p item

  pub found : AreKept unit join v ns tops → (item q p : ℕ) (xs : List (Entry Map)) → IsAt (seen unit v ns tops) item q p xs → Found item q p xs
  found a item q p xs i = of_top (live_top q xs i.list)
    where
      of_top : (top : Top) × (top_at tops q ≡ Some top) × (list_of (map_at unit v) ns top ≡ xs) → Found item q p xs
      of_top (None, here, is) = absurd (let n = ap length is in let l = i.within in omega arith)
      of_top (Some top, here, is) =
          let r = rooted a q top xs here i.list in
          record {
            top = top;
            top_is = here;
            rooted = r;
            place = record {
              within = (let n = r.size_is in let l = i.within in omega arith);
              is = ap (λ ys. slice_index ys p) (sym (numbers_are (map_at unit v) (leaves r.tree)) ∙ ap (map (λ e. e.item)) r.entries_are) ∙ i.item_is;
            };
          }

  -- the item was found where it lies
  pub record Home (item q p : ℕ) (xs : List (Entry Map)) (z : Location) : Type 0 where
    pub list_is : z.list ≡ q
    pub place_is : z.place ≡ p
    pub top_is : top_at tops z.list ≡ Some (Some z.top)
    pub tree : Tree
    pub kept : IsKept unit join v ns q z.top tree
    pub place : IsItemAt tree z.place item
    pub entries_are : entries (map_at unit v) tree ≡ xs
    pub size_is : size tree ≡ length xs

  pub lies : (item q p : ℕ) (xs : List (Entry Map)) (F : Found item q p xs) → LiesIn ns tops q F.top p F.rooted.tree item
  lies item q p xs F = record { tree = F.rooted.kept.tree; top_is = F.top_is; at = F.place }

  pub home : AreKept unit join v ns tops → (item q p : ℕ) (xs : List (Entry Map)) → IsAt (seen unit v ns tops) item q p xs → (z : Location) → ((list top place : ℕ) (t : Tree) → LiesIn ns tops list top place t item → z ≡ record { list = list; top = top; place = place }) → Home item q p xs z
  home a item q p xs i z is =
      let F = found a item q p xs i in
      let e = is q F.top p F.rooted.tree (lies item q p xs F) in
      let list : z.list ≡ q = ap (λ y. y.list) e in
      let top : z.top ≡ F.top = ap (λ y. y.top) e in
      let place : z.place ≡ p = ap (λ y. y.place) e in
      record {
        list_is = list;
        place_is = place;
        top_is = ap (top_at tops) list ∙ F.top_is ∙ ap (λ b. Some (Some b)) (sym top);
        tree = F.rooted.tree;
        kept = subst (λ b. IsKept unit join v ns q b F.rooted.tree) (sym top) F.rooted.kept;
        place = subst (λ k. IsItemAt F.rooted.tree k item) (sym place) F.place;
        entries_are = F.rooted.entries_are;
        size_is = F.rooted.size_is;
      }

  -- an item is a slot
  pub item_within : AreKept unit join v ns tops → (item : ℕ) → HasItem (seen unit v ns tops) item → item < length ns
  item_within a item h =
      let F = found a item h.0 h.1 h.2 h.3 in
      has_within ns F.rooted.tree F.rooted.kept.tree.has.holds item (item_has F.rooted.tree h.1 item F.place.within F.place.is)

  -- an item that is found in one place lies in no other
  pub lies_once : AreKept unit join v ns tops → (item : ℕ) (z : Location) → ((list top place : ℕ) (t : Tree) → LiesIn ns tops list top place t item → z ≡ record { list = list; top = top; place = place }) → LiesOnce (seen unit v ns tops) item
  lies_once a item z is = record {
    list = λ q p r k xs ys i j. sym (home a item q p xs i z is).list_is ∙ (home a item r k ys j z is).list_is;
    place = λ q p r k xs ys i j. sym (home a item q p xs i z is).place_is ∙ (home a item r k ys j z is).place_is;
  }

  -- a free slot is no item of a list
  pub free_absent : AreKept unit join v ns tops → (item : ℕ) → IsFreeSlot ns item → ¬ HasItem (seen unit v ns tops) item
  free_absent a item free h =
      let f = found a item h.0 h.1 h.2 h.3 in
      kept_not_free unit join v ns h.0 f.top f.rooted.tree item item f.rooted.kept free (item_has f.rooted.tree h.1 item f.place.within f.place.is) refl

  -- the items of the entries are those of the leaves
  pub items_are : (t : Tree) (xs : List (Entry Map)) → entries (map_at unit v) t ≡ xs → lists.items xs ≡ items t
  items_are t xs e = ap (map (λ e. e.item)) (sym e) ∙ numbers_are (map_at unit v) (leaves t)

module _ {Shape Map : Type 0} (unit : Shape → Map) (join : Map → Map → Map) (v w : CellMaps Shape Map) (ns ms : List Node) (tops tops' : List (Option Top)) where
  -- the list of a number that stays
  stays_seen : (q : ℕ) (x : Option Top) (but : ℕ → Type 0) → ¬ but q → AreKept unit join v ns tops → KeepsLists unit join v ns w ms but → top_at tops q ≡ x → option_map (list_of (map_at unit w) ms) x ≡ option_map (list_of (map_at unit v) ns) x
  stays_seen q None but n a k e = refl
  stays_seen q (Some None) but n a k e = refl
  stays_seen q (Some (Some top)) but n a k e =
      let t = a.kept q top e in
      ap Some (list_is unit join w ms q top t.0 (k.kept q top t.0 n t.1) ∙ k.same q top t.0 n t.1 ∙ sym (list_is unit join v ns q top t.0 t.1))

  pub others_seen : (q p : ℕ) (x : Option Top) → p ≢ q → AreKept unit join v ns tops → KeepsLists unit join v ns w ms (λ j. j ≡ q) → Writes tops tops' q x → get (seen unit w ms tops') p ≡ get (seen unit v ns tops) p
  others_seen q p x n a k t =
      get_is (map_at unit w) ms tops' p ∙ ap (option_map (list_of (map_at unit w) ms)) (t.others p n)
      ∙ stays_seen p (top_at tops p) (λ j. j ≡ q) n a k refl ∙ sym (get_is (map_at unit v) ns tops p)

  -- the other trees are kept
  others_kept : (q p top : ℕ) (x : Option Top) → p ≢ q → AreKept unit join v ns tops → KeepsLists unit join v ns w ms (λ j. j ≡ q) → Writes tops tops' q x → top_at tops' p ≡ Some (Some top) → (t : Tree) × IsKept unit join w ms p top t
  others_kept q p top x n a k t e = let u = a.kept p top (sym (t.others p n) ∙ e) in (u.0, k.kept p top u.0 n u.1)

  -- the list of a number changed to what its new tree holds
  pub kept_tree : (q top : ℕ) (xs : List (Entry Map)) → AreKept unit join v ns tops → KeepsLists unit join v ns w ms (λ j. j ≡ q) → Writes tops tops' q (Some (Some top)) → HasList unit join w ms q top xs → length ms ≤ length w.maps → AreKept unit join w ms tops'
  kept_tree q top xs a k t l room = record { kept = λ p b e. by_number p b e (cases_eq p q); cells = room }
    where
      same_top : (b c : ℕ) → Some (Some b) ≡ Some (Some c) → b ≡ c
      same_top b c z = cc

      by_number : (p b : ℕ) → top_at tops' p ≡ Some (Some b) → ((p ≡ q) ⊎ (p ≢ q)) → (u : Tree) × IsKept unit join w ms p b u
      by_number p b e (inr n) = others_kept q p b (Some (Some top)) n a k t e
      by_number p b e (inl z) =
          let c = same_top b top (sym e ∙ ap (top_at tops') z ∙ t.changed) in
          (l.now, subst (λ i. IsKept unit join w ms i b l.now) (sym z) (subst (λ i. IsKept unit join w ms q i l.now) (sym c) l.kept))

  pub updates_tree : (q top : ℕ) (xs : List (Entry Map)) → AreKept unit join v ns tops → KeepsLists unit join v ns w ms (λ j. j ≡ q) → Writes tops tops' q (Some (Some top)) → HasList unit join w ms q top xs → Updates (seen unit v ns tops) (seen unit w ms tops') q (Some xs)
  updates_tree q top xs a k t l = record {
    changed = get_top unit join w ms tops' q (Some top) t.changed ∙ ap Some (list_is unit join w ms q top l.now l.kept ∙ l.entries_are);
    others = λ p n. others_seen q p (Some (Some top)) n a k t;
    shape = k.shape;
  }

  -- the list of a number is empty, or gone
  pub kept_no_tree : (q : ℕ) (x : Option Top) → ((top : ℕ) → x ≢ Some (Some top)) → AreKept unit join v ns tops → KeepsLists unit join v ns w ms (λ j. j ≡ q) → Writes tops tops' q x → length ms ≤ length w.maps → AreKept unit join w ms tops'
  kept_no_tree q x never a k t room = record { kept = λ p b e. by_number p b e (cases_eq p q); cells = room }
    where
      by_number : (p b : ℕ) → top_at tops' p ≡ Some (Some b) → ((p ≡ q) ⊎ (p ≢ q)) → (u : Tree) × IsKept unit join w ms p b u
      by_number p b e (inr n) = others_kept q p b x n a k t e
      by_number p b e (inl z) = absurd (never b (sym t.changed ∙ ap (top_at tops') (sym z) ∙ e))

  pub updates_no_tree : (q : ℕ) (x : Option Top) → AreKept unit join v ns tops → KeepsLists unit join v ns w ms (λ j. j ≡ q) → Writes tops tops' q x → Updates (seen unit v ns tops) (seen unit w ms tops') q (option_map (list_of (map_at unit w) ms) x)
  updates_no_tree q x a k t = record {
    changed = get_is (map_at unit w) ms tops' q ∙ ap (option_map (list_of (map_at unit w) ms)) t.changed;
    others = λ p n. others_seen q p x n a k t;
    shape = k.shape;
  }

-- nothing changes but what no list has
module _ {Shape Map : Type 0} (unit : Shape → Map) (join : Map → Map → Map) (v w : CellMaps Shape Map) (ns ms : List Node) where
  pub same_seen : (tops : List (Option Top)) → AreKept unit join v ns tops → KeepsLists unit join v ns w ms (λ _. ⊥) → seen unit w ms tops ≡ seen unit v ns tops
  same_seen tops a k = λ i. record { shape = k.shape i; lists = lists_same tops (λ q x e. stays_seen unit join v w ns ms tops tops q x (λ _. ⊥) (λ z. z) a k e) i }
    where
      lists_same : (ts : List (Option Top)) → ((q : ℕ) (x : Option Top) → top_at ts q ≡ x → option_map (list_of (map_at unit w) ms) x ≡ option_map (list_of (map_at unit v) ns) x) → lists_of (map_at unit w) ms ts ≡ lists_of (map_at unit v) ns ts
      lists_same [] s = refl
      lists_same (t ∷ ts) s = λ i. (s 0 t refl i) ∷ (lists_same ts (λ q x e. s (suc q) x e) i)

  pub kept_all : (tops : List (Option Top)) → AreKept unit join v ns tops → KeepsLists unit join v ns w ms (λ _. ⊥) → length ms ≤ length w.maps → AreKept unit join w ms tops
  kept_all tops a k room = record { kept = λ q top e. (let t = a.kept q top e in (t.0, k.kept q top t.0 (λ z. z) t.1)); cells = room }

  -- all lists stay, so all but one do
  pub but_one : (q : ℕ) → KeepsLists unit join v ns w ms (λ _. ⊥) → KeepsLists unit join v ns w ms (λ j. j ≡ q)
  but_one q k = record { kept = λ p top u n. k.kept p top u (λ z. z); same = λ p top u n. k.same p top u (λ z. z); shape = k.shape }

pub keeps_same : {Shape Map : Type 0} (unit : Shape → Map) (join : Map → Map → Map) (v : CellMaps Shape Map) (ns : List Node) (but : ℕ → Type 0) → KeepsLists unit join v ns v ns but
keeps_same unit join v ns but = record { kept = λ p top u n k. k; same = λ p top u n k. refl; shape = refl }

-- one change after another
pub keeps_then : {Shape Map : Type 0} (unit : Shape → Map) (join : Map → Map → Map) (u v w : CellMaps Shape Map) (ls ns ms : List Node) (but : ℕ → Type 0) → KeepsLists unit join u ls v ns but → KeepsLists unit join v ns w ms but → KeepsLists unit join u ls w ms but
keeps_then unit join u v w ls ns ms but a b = record {
  kept = λ p top t n k. b.kept p top t n (a.kept p top t n k);
  same = λ p top t n k. b.same p top t n (a.kept p top t n k) ∙ a.same p top t n k;
  shape = b.shape ∙ a.shape;
}

pub some_is : {A : Type 0} (x y : A) → Some x ≡ Some y → x ≡ y
some_is x y e = cc

pub none_some : {A : Type 0} (x : A) → None ≡ Some x → ⊥
none_some x e = cc

-- an empty list has no top
pub no_such : (top : ℕ) → ◌≢◌ {A = Option Top} (Some None) (Some (Some top))
no_such top e = none_some top (some_is None (Some top) e)

pub one_top : (tops : List (Option Top)) (q a b : ℕ) → top_at tops q ≡ Some (Some a) → top_at tops q ≡ Some (Some b) → a ≡ b
one_top tops q a b e f = some_is a b (some_is (Some a) (Some b) (sym e ∙ f))

module _ {Shape Map : Type 0} (unit : Shape → Map) (join : Map → Map → Map) where
  -- a number that is free is no list's
  pub not_live : (v : CellMaps Shape Map) (ns : List Node) (tops : List (Option Top)) (q : ℕ) → top_at tops q ≡ None → ¬ IsLive (seen unit v ns tops) q
  not_live v ns tops q e h = let t = live_top unit join v ns tops q h.0 h.1 in none_some t.0 (sym e ∙ t.1)

  pub kept_none : (v : CellMaps Shape Map) (ns : List Node) (tops : List (Option Top)) → ns ≡ [] → tops ≡ [] → AreKept unit join v ns tops
  kept_none v ns tops e f = record {
    kept = λ q top g. absurd (none_some (Some top) (ap (λ ts. top_at ts q) (sym f) ∙ g));
    cells = (let n = ap length e in omega arith);
  }

  -- the tree of a list is gone
  pub tree_gone : (v : CellMaps Shape Map) (ns ms : List Node) (q : ℕ) → ((p top : ℕ) (u : Tree) → p ≢ q → IsTreeOf ns p top u → IsTreeOf ms p top u) → KeepsLists unit join v ns v ms (λ p. p ≡ q)
  tree_gone v ns ms q others = record {
    kept = λ p b u n k. kept_stays unit join v v ns ms p b u k (others p b u n k.tree) (omega arith) (λ j h. refl);
    same = λ p b u n k. refl;
    shape = refl;
  }

  module _ (v w : CellMaps Shape Map) (ns ms : List Node) (tops tops' : List (Option Top)) (q : ℕ) (xs : List (Entry Map)) where
    -- what is left of a list, if anything is
    pub rest_kept : (x : Top) → MatchOption x (xs ≡ []) (λ top. HasList unit join w ms q top xs) → AreKept unit join v ns tops → KeepsLists unit join v ns w ms (λ j. j ≡ q) → Writes tops tops' q (Some x) → length ms ≤ length w.maps → AreKept unit join w ms tops'
    rest_kept None h a k t room = kept_no_tree unit join v w ns ms tops tops' q (Some None) no_such a k t room
    rest_kept (Some top) h a k t room = kept_tree unit join v w ns ms tops tops' q top xs a k t h room

    pub rest_updates : (x : Top) → MatchOption x (xs ≡ []) (λ top. HasList unit join w ms q top xs) → AreKept unit join v ns tops → KeepsLists unit join v ns w ms (λ j. j ≡ q) → Writes tops tops' q (Some x) → Updates (seen unit v ns tops) (seen unit w ms tops') q (Some xs)
    rest_updates None h a k t = subst (λ ys. Updates (seen unit v ns tops) (seen unit w ms tops') q (Some ys)) (sym h) (updates_no_tree unit join v w ns ms tops tops' q (Some None) a k t)
    rest_updates (Some top) h a k t = updates_tree unit join v w ns ms tops tops' q top xs a k t h

  -- the top of a list stays
  pub writes_same : (tops : List (Option Top)) (q : ℕ) (x : Option Top) → top_at tops q ≡ x → Writes tops tops q x
  writes_same tops q x e = record { changed = e; others = λ p n. refl }

  -- a number that is free has no list
  pub get_free : (v : CellMaps Shape Map) (ns : List Node) (tops : List (Option Top)) (q : ℕ) → top_at tops q ≡ None → get (seen unit v ns tops) q ≡ None
  get_free v ns tops q e = get_is (map_at unit v) ns tops q ∙ ap (option_map (list_of (map_at unit v) ns)) e

  -- more free slots, and all lists stay
  pub sound_all : (v w : CellMaps Shape Map) (ns ms : List Node) (spare spare' : ℕ) (tops : List (Option Top)) → IsSound unit join v ns spare tops → KeepsLists unit join v ns w ms (λ _. ⊥) → length ms ≤ length w.maps → length ms + spare ≡ length ns + spare' → IsSound unit join w ms spare' tops
  sound_all v w ns ms spare spare' tops a k room more = record {
    lists = kept_all unit join v w ns ms tops a.lists k room;
    slots = (let h = a.slots in let e = ap slots_used (same_seen unit join v w ns ms tops a.lists k) in omega (arith, h, e, more));
  }

-- what is no top is none
pub none_is : (x : Top) → ((top : ℕ) → x ≡ Some top → ⊥) → x ≡ None
none_is None n = refl
none_is (Some top) n = absurd (n top refl)

-- no lists take no slots
pub none_used : {Map : Type 0} (f : ℕ → Map) (ns : List Node) (tops : List (Option Top)) (spare : ℕ) → ns ≡ [] → spare ≡ 0 → tops ≡ [] → length ns ≡ spare + sum_by list_slots (lists_of f ns tops)
none_used f ns tops spare e z h =
    let a = ap length e in let b = ap (λ ts. sum_by list_slots (lists_of f ns ts)) h in
    omega (arith, a, b, z)
