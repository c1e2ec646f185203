-- The leaves of a list, through the changes of the list.
use Rattle.std.proofs.Common.{◌≡◌, ℕ, suc, ◌+◌, ◌*◌, ◌≤◌, Bool, true, List, [], ◌∷◌, ◌++◌, Some, map, take, drop, length, set, refl, sym, ap, subst, ◌∙◌}
use Rattle.std.specs.Prelude.{insert, remove, slice_set}
use Rattle.std.proofs.lemmas.List.{map-append, take-map, drop-map, map-set, length-map}
use Rattle.child_trees.specs.declared.leaf.Leaf.{Leaf}
use Rattle.child_trees.specs.Bits.{bits}
use Rattle.child_trees.specs.Lists.{Lists, Entry, get, AreEntries, entry, map_by}
use Rattle.model_lists.specs.Lists.{HasLeaves}
use Rattle.model_lists.specs.Inside.{leaf_for}

map-insert : {X Y : Type 0} (f : X → Y) (xs : List X) (i : ℕ) (x : X) → map f (insert xs i x) ≡ insert (map f xs) i (f x)
map-insert f xs i x = map-append f (take i xs) (x ∷ drop i xs) ∙ (λ j. sym (take-map f i xs) j ++ f x ∷ sym (drop-map f i xs) j)

map-remove : {X Y : Type 0} (f : X → Y) (xs : List X) (i : ℕ) → map f (remove xs i) ≡ remove (map f xs) i
map-remove f xs i = map-append f (take i xs) (drop (suc i) xs) ∙ (λ j. sym (take-map f i xs) j ++ sym (drop-map f (suc i) xs) j)

module _ {Shape Map : Type 0} (v w : Lists Shape Map) (list : ℕ) (leaf : ℕ → Map) (ambivalent : ℕ → Bool) (symbols : List ℕ) (h : HasLeaves v list leaf ambivalent symbols) where
  -- as many as there are symbols
  pub many : length h.entries ≡ length symbols
  many = sym (length-map h.entries (λ e. e.act)) ∙ (ap length h.maps ∙ length-map symbols leaf)

  pub kept : get w list ≡ get v list → HasLeaves w list leaf ambivalent symbols
  kept e = record { entries = h.entries; list_is = e ∙ h.list_is; maps = h.maps; marks = h.marks }

  pub inserted : (place n : ℕ) (x : Entry Map) → get w list ≡ Some (insert h.entries place x) → x.act ≡ leaf n → x.marked ≡ ambivalent n → HasLeaves w list leaf ambivalent (insert symbols place n)
  inserted place n x e act mark = record {
    entries = insert h.entries place x;
    list_is = e;
    maps = map-insert (λ (e : Entry Map). e.act) h.entries place x ∙ ((λ j. insert (h.maps j) place (act j)) ∙ sym (map-insert leaf symbols place n));
    marks = map-insert (λ (e : Entry Map). e.marked) h.entries place x ∙ ((λ j. insert (h.marks j) place (mark j)) ∙ sym (map-insert ambivalent symbols place n));
  }

  pub removed : (place : ℕ) → get w list ≡ Some (remove h.entries place) → HasLeaves w list leaf ambivalent (remove symbols place)
  removed place e = record {
    entries = remove h.entries place;
    list_is = e;
    maps = map-remove (λ (e : Entry Map). e.act) h.entries place ∙ ((λ j. remove (h.maps j) place) ∙ sym (map-remove leaf symbols place));
    marks = map-remove (λ (e : Entry Map). e.marked) h.entries place ∙ ((λ j. remove (h.marks j) place) ∙ sym (map-remove ambivalent symbols place));
  }

  pub written : (place n : ℕ) (x : Entry Map) → get w list ≡ Some (slice_set h.entries place x) → x.act ≡ leaf n → x.marked ≡ ambivalent n → HasLeaves w list leaf ambivalent (slice_set symbols place n)
  written place n x e act mark = record {
    entries = set h.entries place x;
    list_is = e;
    maps = map-set (λ (e : Entry Map). e.act) h.entries place x ∙ ((λ j. set (h.maps j) place (act j)) ∙ sym (map-set leaf symbols place n));
    marks = map-set (λ (e : Entry Map). e.marked) h.entries place x ∙ ((λ j. set (h.marks j) place (mark j)) ∙ sym (map-set ambivalent symbols place n));
  }

-- ---- a new list
module _ {Letter Map : Type 0} (unit : Map) (by : Letter → Map) (letter : ℕ → Letter) (ambivalent : ℕ → Bool) where
  acts-are : (symbols : List ℕ) (xs : List (Entry Map)) → AreEntries unit by (map (leaf_for letter ambivalent) symbols) xs → map (λ e. e.act) xs ≡ map (λ n. by (letter n)) symbols
  acts-are [] [] h = refl
  acts-are [] (x ∷ xs) h = absurd h
  acts-are (n ∷ symbols) [] h = absurd h
  acts-are (n ∷ symbols) (x ∷ xs) (e, h) = let here : x.act ≡ by (letter n) = ap (λ (x : Entry Map). x.act) e in let rest = acts-are symbols xs h in λ i. here i ∷ rest i

  marks-are : (symbols : List ℕ) (xs : List (Entry Map)) → AreEntries unit by (map (leaf_for letter ambivalent) symbols) xs → map (λ e. e.marked) xs ≡ map ambivalent symbols
  marks-are [] [] h = refl
  marks-are [] (x ∷ xs) h = absurd h
  marks-are (n ∷ symbols) [] h = absurd h
  marks-are (n ∷ symbols) (x ∷ xs) (e, h) = let here : x.marked ≡ ambivalent n = ap (λ (x : Entry Map). x.marked) e in let rest = marks-are symbols xs h in λ i. here i ∷ rest i

  pub made : {Shape : Type 0} (w : Lists Shape Map) (list : ℕ) (symbols : List ℕ) (xs : List (Entry Map)) → AreEntries unit by (map (leaf_for letter ambivalent) symbols) xs → get w list ≡ Some xs →
      HasLeaves w list (λ n. by (letter n)) ambivalent symbols
  made w list symbols xs h e = record { entries = xs; list_is = e; maps = acts-are symbols xs h; marks = marks-are symbols xs h }

-- ---- the leaf of a child
module _ {Shape Map Letter : Type 0} (v w : Lists Shape Map) (list : ℕ) (unit : Map) (by : Letter → Map) (letter : ℕ → Letter) (ambivalent : ℕ → Bool) (symbols : List ℕ) (h : HasLeaves v list (λ m. by (letter m)) ambivalent symbols)
    (place n item : ℕ) (l : Leaf Letter) (marked : Bool) (l_is : l ≡ record { letter = Some (letter n); element = true; marked = marked }) (mark : marked ≡ ambivalent n) where
  act_is : map_by unit by l.letter ≡ by (letter n)
  act_is = ap (λ (l : Leaf Letter). map_by unit by l.letter) l_is

  mark_is : l.marked ≡ ambivalent n
  mark_is = ap (λ (l : Leaf Letter). l.marked) l_is ∙ mark

  pub inserted-leaf : get w list ≡ Some (insert h.entries place (entry unit by item l)) → HasLeaves w list (λ m. by (letter m)) ambivalent (insert symbols place n)
  inserted-leaf e = inserted v w list (λ m. by (letter m)) ambivalent symbols h place n (entry unit by item l) e act_is mark_is

  pub written-leaf : get w list ≡ Some (slice_set h.entries place (entry unit by item l)) → HasLeaves w list (λ m. by (letter m)) ambivalent (slice_set symbols place n)
  written-leaf e = written v w list (λ m. by (letter m)) ambivalent symbols h place n (entry unit by item l) e act_is mark_is

-- bounds by leaves are bounds by symbols
pub counted : (old new times more n m : ℕ) → n ≡ m → new ≤ old + times * (bits (n + more) + 1) → new ≤ old + times * (bits (m + more) + 1)
counted old new times more n m e l = subst (λ n. new ≤ old + times * (bits (n + more) + 1)) e l
