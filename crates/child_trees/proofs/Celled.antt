-- The maps of cells before and after a call of their summary.
use Rattle.std.proofs.Common.{◌≡◌, ◌≢◌, ◌⊎◌, ℕ, zero, suc, ◌<◌, List, [], ◌∷◌, ◌++◌, length, get_or, set, map, refl, sym, ap, ◌∙◌, subst, inl, inr, arith}
use Rattle.std.proofs.lemmas.Bool.{cases_eq}
use Rattle.std.proofs.lemmas.List.{get_or-map, get_or_push, get_or_append_left, get_or_default, get_or-set_same, get_or-set_other, length_push, length-set, map_push}
use Rattle.child_trees.specs.Cells.{CellMaps, AreCells, SetsMap, AddsSlot, AddsSlots}
use Rattle.child_trees.specs.Laws.{KeepsCells}

pub same_view : {Shape Map : Type 0} (v w : CellMaps Shape Map) → v.shape ≡ w.shape → v.maps ≡ w.maps → v ≡ w
same_view v w p q = λ i. record { shape = p i; maps = q i }

-- two functions that agree on the elements
pub map_same : {Cell Map : Type 0} (f g : Cell → Map) (cs : List Cell) → ((j : ℕ) (d : Cell) → j < length cs → g (get_or cs j d) ≡ f (get_or cs j d)) → map g cs ≡ map f cs
map_same f g [] e = refl
map_same f g (c ∷ cs) e = λ i. (e 0 c (omega arith) i) ∷ (map_same f g cs (λ j d l. e (suc j) d (omega arith)) i)

-- two functions that agree on all elements but one
pub map_write : {Cell Map : Type 0} (f g : Cell → Map) (cs : List Cell) (k : ℕ) (m : Map) → k < length cs → ((d : Cell) → g (get_or cs k d) ≡ m) → ((j : ℕ) (d : Cell) → j < length cs → j ≢ k → g (get_or cs j d) ≡ f (get_or cs j d)) → map g cs ≡ set (map f cs) k m
map_write f g [] k m l here others = absurd (omega arith)
map_write f g (c ∷ cs) zero m l here others = λ i. (here c i) ∷ (map_same f g cs (λ j d w. others (suc j) d (omega arith) (λ e. absurd (omega (arith, e)))) i)
map_write f g (c ∷ cs) (suc k) m l here others = λ i. (others 0 c (omega arith) (λ e. absurd (omega (arith, e))) i) ∷ (map_write f g cs k m (omega arith) here (λ j d w n. others (suc j) d (omega arith) (λ e. n (omega (arith, e)))) i)

-- what was read is the element
pub read_map : {Cell Map : Type 0} (f : Cell → Map) (cs : List Cell) (k : ℕ) (x : Cell) (u : Map) → k < length cs → x ≡ get_or cs k x → get_or (map f cs) k u ≡ f x
read_map f cs k x u l e = get_or-map f cs k x u l ∙ ap f (sym e)

module _ {Sum Cell Map : Type 0} (live : Sum → Cell → Type 0) (map_of : Sum → Cell → Map) where
  -- a call that leaves all cells, and then one that writes a cell which was not live
  pub KeepsCells-then : (s t u : Sum) (c : Cell) → KeepsCells live map_of (λ _. ⊥) s t → ¬ live s c → KeepsCells live map_of (λ d. d ≡ c) t u → KeepsCells live map_of (λ _. ⊥) s u
  KeepsCells-then s t u c one new two = record {
    stays = λ d l n. two.stays d (one.stays d l n) (λ e. new (subst (live s) e l));
    same = λ d l n. two.same d (one.stays d l n) (λ e. new (subst (live s) e l)) ∙ one.same d l n;
  }

  -- no cell was written
  pub AreCells-kept : (s t : Sum) (cs : List Cell) → KeepsCells live map_of (λ _. ⊥) s t → AreCells live s cs → AreCells live t cs
  AreCells-kept s t cs k a = record { live_at = λ j d l. k.stays (get_or cs j d) (a.live_at j d l) (λ x. x); apart = a.apart }

  pub maps_kept : (s t : Sum) (cs : List Cell) → KeepsCells live map_of (λ _. ⊥) s t → AreCells live s cs → map (map_of t) cs ≡ map (map_of s) cs
  maps_kept s t cs k a = map_same (map_of s) (map_of t) cs (λ j d l. k.same (get_or cs j d) (a.live_at j d l) (λ x. x))

  -- the cell of a slot was written
  pub maps_written : (s t : Sum) (cs : List Cell) (k : ℕ) (c : Cell) (m : Map) → KeepsCells live map_of (λ d. d ≡ c) s t → AreCells live s cs → k < length cs → c ≡ get_or cs k c → map_of t c ≡ m → map (map_of t) cs ≡ set (map (map_of s) cs) k m
  maps_written s t cs k c m keeps a l e value =
      map_write (map_of s) (map_of t) cs k m l
      (λ d. ap (map_of t) (get_or_default cs k d c l ∙ sym e) ∙ value)
      (λ j d w n. keeps.same (get_or cs j d) (a.live_at j d w) (λ q. n (a.apart j k d w l (q ∙ e ∙ get_or_default cs k c d l))))

  pub AreCells-written : (s t : Sum) (cs : List Cell) (k : ℕ) (c : Cell) → KeepsCells live map_of (λ d. d ≡ c) s t → AreCells live s cs → k < length cs → c ≡ get_or cs k c → live t c → AreCells live t cs
  AreCells-written s t cs k c keeps a l e here = record { live_at = λ j d w. by_place j d w (cases_eq j k); apart = a.apart }
    where
      by_place : (j : ℕ) (d : Cell) → j < length cs → ((j ≡ k) ⊎ (j ≢ k)) → live t (get_or cs j d)
      by_place j d w (inl q) = subst (live t) (e ∙ get_or_default cs k c d l ∙ sym (ap (λ i. get_or cs i d) q)) here
      by_place j d w (inr n) = keeps.stays (get_or cs j d) (a.live_at j d w) (λ q. n (a.apart j k d w l (q ∙ e ∙ get_or_default cs k c d l)))

  pub maps_pushed : (s t : Sum) (cs : List Cell) (c : Cell) → KeepsCells live map_of (λ _. ⊥) s t → AreCells live s cs → map (map_of t) (cs ++ c ∷ []) ≡ map (map_of s) cs ++ map_of t c ∷ []
  maps_pushed s t cs c k a = map_push (map_of t) cs c ∙ ap (λ ms. ms ++ map_of t c ∷ []) (maps_kept s t cs k a)

  pub AreCells-pushed : (s t : Sum) (cs : List Cell) (c : Cell) → KeepsCells live map_of (λ _. ⊥) s t → AreCells live s cs → ¬ live s c → live t c → AreCells live t (cs ++ c ∷ [])
  AreCells-pushed s t cs c k a new made = record { live_at = all; apart = differ }
    where
      -- an element is the new one, or one from before
      where_is : (j : ℕ) (d : Cell) → j < length (cs ++ c ∷ []) → ((j < length cs) × (get_or (cs ++ c ∷ []) j d ≡ get_or cs j d)) ⊎ ((j ≡ length cs) × (get_or (cs ++ c ∷ []) j d ≡ c))
      where_is j d l =
          let n = length_push cs c in
          elim (cases_eq j (length cs)) [
            | inl e ↦ inr (e, get_or_push cs c d j (sym e))
            | inr o ↦ (let b : j < length cs = omega (arith, l, n, o) in inl (b, get_or_append_left cs (c ∷ []) d j b))
          ]

      all : (j : ℕ) (d : Cell) → j < length (cs ++ c ∷ []) → live t (get_or (cs ++ c ∷ []) j d)
      all j d l =
          elim (where_is j d l) [
            | inl w ↦ subst (live t) (sym w.1) (k.stays (get_or cs j d) (a.live_at j d w.0) (λ x. x))
            | inr w ↦ subst (live t) (sym w.1) made
          ]

      differ : (i j : ℕ) (d : Cell) → i < length (cs ++ c ∷ []) → j < length (cs ++ c ∷ []) → get_or (cs ++ c ∷ []) i d ≡ get_or (cs ++ c ∷ []) j d → i ≡ j
      differ i j d l m e =
          elim (where_is i d l) [
            | inl w ↦ elim (where_is j d m) [
              | inl x ↦ a.apart i j d w.0 x.0 (sym w.1 ∙ e ∙ x.1)
              | inr x ↦ absurd (new (subst (live s) (sym w.1 ∙ e ∙ x.1) (a.live_at i d w.0)))
            ]
            | inr w ↦ elim (where_is j d m) [
              | inl x ↦ absurd (new (subst (live s) (sym x.1 ∙ sym e ∙ w.1) (a.live_at j d x.0)))
              | inr x ↦ w.0 ∙ sym x.0
            ]
          ]

-- a list of maps with one changed
pub sets_map : {Shape Map : Type 0} (unit : Shape → Map) (v w : CellMaps Shape Map) (k : ℕ) (m : Map) → k < length v.maps → w.shape ≡ v.shape → w.maps ≡ set v.maps k m → SetsMap unit v w k m
sets_map unit v w k m l h e = record {
  changed = ap (λ ms. get_or ms k (unit w.shape)) e ∙ get_or-set_same v.maps k m (unit w.shape) l;
  others = λ j n. ap (λ ms. get_or ms j (unit w.shape)) e ∙ get_or-set_other v.maps k j m (unit w.shape) n ∙ ap (λ s. get_or v.maps j (unit s)) h;
  size = ap length e ∙ length-set v.maps k m;
  shape = h;
}

-- a list of maps with one more
pub adds_slot : {Shape Map : Type 0} (unit : Shape → Map) (v w : CellMaps Shape Map) (m : Map) → w.shape ≡ v.shape → w.maps ≡ v.maps ++ m ∷ [] → AddsSlot unit v w
adds_slot unit v w m h e = record {
  size = ap length e ∙ length_push v.maps m;
  others = λ j l. ap (λ ms. get_or ms j (unit w.shape)) e ∙ get_or_append_left v.maps (m ∷ []) (unit w.shape) j l ∙ ap (λ s. get_or v.maps j (unit s)) h;
  shape = h;
}

-- one more slot after others
pub adds_then : {Shape Map : Type 0} (unit : Shape → Map) (u v w : CellMaps Shape Map) → AddsSlots unit u v → AddsSlot unit v w → AddsSlots unit u w
adds_then unit u v w a b = record {
  size = (let p = a.size in let q = b.size in omega arith);
  others = λ j l. (let p = a.size in b.others j (omega arith)) ∙ a.others j l;
  shape = b.shape ∙ a.shape;
}
