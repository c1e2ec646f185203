-- A list of new children, and new lists for their own.
use Rattle.std.proofs.Common.{◌≡◌, ◌≢◌, ◌⊎◌, ℕ, zero, suc, ◌+◌, ◌<◌, ◌≤◌, List, [], ◌∷◌, ◌++◌, length, map, take, get_or, add-one, sym, ap, ◌∙◌, subst, Option, Some, None, refl, inl, inr, arith}
use Rattle.std.specs.Option.{ForSome}
use Rattle.std.proofs.Math.Seq.{take-suc}
use Rattle.std.proofs.lemmas.List.{length-map, get_or-map, take_all}
use Rattle.child_trees.specs.declared.leaf.Leaf.{Leaf}
use Rattle.child_trees.specs.Lists.{Entry, get, IsLive, AreEntries, Updates, items}
use Rattle.doc_nodes.specs.declared.content.NewNode.{NewNode}
use Rattle.doc_nodes.specs.declared.firsts.First.{First}
use Rattle.doc_nodes.specs.declared.firsts.Child.{Child}
use Rattle.doc_nodes.specs.declared.families.Family.{Family}
use Rattle.doc_nodes.specs.declared.links.Hung.{Hung}
use Rattle.doc_nodes.specs.Firsts.{no_child, firsts_of}
use Rattle.doc_nodes.specs.Nodes.{Has, Lacks, Distinct}
use Rattle.doc_nodes.specs.Linked.{Orders, list_or, entries, KeepsLists}
use Rattle.doc_nodes.specs.Families.{leaf_of, AreEmpty, AreOwn, OwnLists, HangsAll}
use Rattle.doc_nodes.proofs.Among.{from-map, has-map, lacks-has}

-- one image more
pub image_next : {A B : Type 0} (f : A → B) (xs : List A) (k : ℕ) (x : A) (made : List B) (y : B) → k < length xs → x ≡ get_or xs k x → made ≡ take k (map f xs) → y ≡ f x → made ++ y ∷ [] ≡ take (k + 1) (map f xs)
image_next f xs k x made y lt at so is =
    let size = length-map xs f in
    (λ i. so i ++ is i ∷ [])
    ∙ ap (λ z. take k (map f xs) ++ z ∷ []) (ap f at ∙ sym (get_or-map f xs k x (f x) lt))
    ∙ sym (take-suc (map f xs) k (f x) (omega (arith, lt, size)))
    ∙ ap (λ n. take n (map f xs)) (sym (add-one k))

pub image_all : {A B : Type 0} (f : A → B) (xs : List A) (k : ℕ) (made : List B) → made ≡ take k (map f xs) → length xs ≤ k → made ≡ map f xs
image_all f xs k made so le = let size = length-map xs f in so ∙ take_all k (map f xs) (omega (arith, le, size))

-- any letter fits
pub any_fits : (o : Option Child) → ForSome o (λ _. Unit {0})
any_fits o = λ child is. tt

map_push : {A B : Type 0} (f : A → B) (xs : List A) (x : A) → map f (xs ++ x ∷ []) ≡ map f xs ++ f x ∷ []
map_push f [] x = refl
map_push f (y ∷ ys) x = ap (λ l. f y ∷ l) (map_push f ys x)

from_push : {A : Type 0} (xs : List A) (c x : A) → Has x (xs ++ c ∷ []) → Has x xs ⊎ (c ≡ x)
from_push [] c x h = elim h [ inl e ↦ inr e | inr k ↦ absurd k ]
from_push (y ∷ ys) c x h = elim h [ inl e ↦ inl (inl e) | inr k ↦ elim (from_push ys c x k) [ inl z ↦ inl (inr z) | inr e ↦ inr e ] ]

lacks_push : (x : ℕ) (xs : List ℕ) (c : ℕ) → Lacks x xs → c ≢ x → Lacks x (xs ++ c ∷ [])
lacks_push x [] c l n = (n, tt)
lacks_push x (y ∷ ys) c l n = (l.0, lacks_push x ys c l.1 n)

distinct_push : (xs : List ℕ) (c : ℕ) → ((x : ℕ) → Has x xs → x ≢ c) → Distinct xs → Distinct (xs ++ c ∷ [])
distinct_push [] c n d = (tt, tt)
distinct_push (x ∷ xs) c n d = (lacks_push x xs c d.0 (λ e. n x (inl refl) (sym e)), distinct_push xs c (λ y k. n y (inr k)) d.1)

-- some of the items have their lists
pub record OwnSoFar (v w : Orders) (all : List ℕ) (k : ℕ) (hung : List Hung) : Type 0 where
  pub own : OwnLists v w (take k all) hung
  pub keeps : KeepsLists v w

pub own_begun : (v : Orders) (all : List ℕ) (hung : List Hung) → hung ≡ [] → OwnSoFar v v all 0 hung
own_begun v all hung e = subst (OwnSoFar v v all 0) (sym e) (record { own = record { items_are = refl; lists = record { own = λ h z. absurd z; apart = tt } }; keeps = λ q live. refl })

-- a new list changes none of before
pub keeps_new : (v w x : Orders) (q : ℕ) (to : Option (List (Entry First))) → KeepsLists v w → ¬ IsLive w q → Updates w x q to → KeepsLists v x
keeps_new v w x q to keeps fresh u = λ r live. u.others r (λ e. fresh (live.0, ap (get w) (sym e) ∙ keeps r live ∙ live.1)) ∙ keeps r live

pub own_more : (v w x : Orders) (all : List ℕ) (k : ℕ) (hung more : List Hung) (h : Hung) → OwnSoFar v w all k hung → k < length all → h.item ≡ get_or all k 0 → ¬ IsLive w h.list
    → Updates w x h.list (Some []) → more ≡ hung ++ h ∷ [] → OwnSoFar v x all (k + 1) more
own_more v w x all k hung more h so lt is fresh u e = subst (OwnSoFar v x all (k + 1)) (sym e) (record {
  own = record {
    items_are =
        map_push (λ (y : Hung). y.item) hung h ∙ (λ i. so.own.items_are i ++ is i ∷ []) ∙ sym (take-suc all k 0 lt) ∙ ap (λ n. take n all) (sym (add-one k));
    lists = record {
      own = λ y z. elim (from_push hung h y z) [
        | inl old ↦ let o = so.own.lists.own y old in (u.others y.list (λ q. fresh ([], ap (get w) (sym q) ∙ o.0)) ∙ o.0, o.1)
        | inr same ↦ (ap (λ (z : Hung). get x z.list) (sym same) ∙ u.changed, λ live. fresh (live.0, ap (λ (z : Hung). get w z.list) same ∙ so.keeps y.list live ∙ live.1))
      ];
      apart = subst Distinct (sym (map_push (λ (y : Hung). y.list) hung h)) (distinct_push (map (λ (y : Hung). y.list) hung) h.list (λ y z q.
          let m = from-map (λ (y : Hung). y.list) hung y z in
          fresh ([], ap (get w) (sym (m.is ∙ q)) ∙ (so.own.lists.own m.item m.has).0)) so.own.lists.apart);
    };
  };
  keeps = keeps_new v w x h.list (Some []) so.keeps fresh u;
})

-- lists of others change none of these
pub own_kept : (v w y : Orders) (all : List ℕ) (k : ℕ) (hung more : List Hung) → OwnSoFar v w all k hung → KeepsLists w y → more ≡ hung → OwnSoFar v y all k more
own_kept v w y all k hung more so keeps same = subst (OwnSoFar v y all k) (sym same) (record {
  own = record {
    items_are = so.own.items_are;
    lists = record { own = λ h j. let o = so.own.lists.own h j in (keeps h.list ([], o.0) ∙ o.0, o.1); apart = so.own.lists.apart };
  };
  keeps = λ r live. keeps r (live.0, so.keeps r live ∙ live.1) ∙ so.keeps r live;
})

-- a new list that is gone again
pub gone_again : (v w x : Orders) (q : ℕ) → ¬ IsLive v q → Updates v w q (Some []) → Updates w x q None → KeepsLists v x
gone_again v w x q fresh u z = λ r live.
    let d : r ≢ q = λ e. fresh (live.0, ap (get v) (sym e) ∙ live.1) in
    z.others r d ∙ u.others r d

pub own_done : (v w : Orders) (all these : List ℕ) (k : ℕ) (hung : List Hung) → OwnSoFar v w all k hung → length all ≤ k → all ≡ these → OwnLists v w these hung
own_done v w all these k hung so le same = subst (λ l. OwnLists v w l hung) (take_all k all le ∙ same) so.own

-- a new list of children, and their own lists
module _ (v u w : Orders) (q : ℕ) (xs : List (Entry First)) (fresh : ¬ IsLive v q) (made : Updates v u q (Some xs)) (keeps : KeepsLists u w) where
  first_keeps : KeepsLists v u
  first_keeps = λ r live. made.others r (λ e. fresh (live.0, ap (get v) (sym e) ∙ live.1))

  pub both_keep : KeepsLists v w
  both_keep = λ r live. keeps r (live.0, first_keeps r live ∙ live.1) ∙ first_keeps r live

  pub made_still : get w q ≡ Some xs
  made_still = keeps q (xs, made.changed) ∙ made.changed

  pub keeps_dropped : (x : Orders) → Updates w x q None → KeepsLists v x
  keeps_dropped x gone = λ r live. gone.others r (λ e. fresh (live.0, ap (get v) (sym e) ∙ live.1)) ∙ both_keep r live

  pub hangs : (children : List NewNode) (leaves : List (Leaf Child)) (family : Family) → family.list ≡ q → leaves ≡ map leaf_of children → AreEntries no_child firsts_of leaves xs
      → OwnLists u w (items (entries u q)) family.hung.items → HangsAll v w children family
  hangs children leaves family is same are own = record {
    list = xs;
    is = ap (get w) is ∙ made_still;
    are = subst (λ l. AreEntries no_child firsts_of l xs) same are;
    fresh = λ live. fresh (live.0, ap (get v) (sym is) ∙ live.1);
    items_are = own.items_are ∙ ap (λ o. items (list_or o)) made.changed;
    own = λ h z.
        let o = own.lists.own h z in
        (o.0, (λ live. o.1 (live.0, first_keeps h.list live ∙ live.1)), (λ e. o.1 (xs, ap (get u) (e ∙ is) ∙ made.changed)));
    apart = own.lists.apart;
    keeps = both_keep;
  }

-- the lists of some are not among those before
has_front : (hs : List Hung) (k : ℕ) (d : Hung) → k < length hs → Has (get_or hs k d) hs
has_front [] k d l = absurd (omega (arith, l))
has_front (h ∷ hs) zero d l = inl refl
has_front (h ∷ hs) (suc k) d l = inr (has_front hs k d (omega (arith, l)))

front_lacks : (hs : List Hung) (k : ℕ) (d : Hung) → k < length hs → Distinct (map (λ h. h.list) hs) → Lacks (get_or hs k d).list (map (λ h. h.list) (take k hs))
front_lacks [] k d l a = absurd (omega (arith, l))
front_lacks (h ∷ hs) zero d l a = tt
front_lacks (h ∷ hs) (suc k) d l a =
    let lt : k < length hs = omega (arith, l) in
    ((λ e. lacks-has h.list (get_or hs k d).list (map (λ h. h.list) hs) a.0 (has-map (λ h. h.list) hs (get_or hs k d) (has_front hs k d lt)) (sym e)), front_lacks hs k d lt a.1)

lacks_parts : (q : ℕ) (hs : List Hung) (k : ℕ) (d : Hung) → k < length hs → Lacks q (map (λ h. h.list) (take (suc k) hs)) → Lacks q (map (λ h. h.list) (take k hs)) × ((get_or hs k d).list ≢ q)
lacks_parts q [] k d l a = absurd (omega (arith, l))
lacks_parts q (h ∷ hs) zero d l a = (tt, a.0)
lacks_parts q (h ∷ hs) (suc k) d l a = let z = lacks_parts q hs k d (omega (arith, l)) a.1 in ((a.0, z.0), z.1)

-- the first of the lists are gone
abbrev pub DroppedSoFar : Orders → Orders → List Hung → ℕ → Type 0
DroppedSoFar w x hung k = (q : ℕ) → Lacks q (map (λ h. h.list) (take k hung)) → get x q ≡ get w q

module _ (w x : Orders) (hung : List Hung) (k : ℕ) (one : Hung) (so : DroppedSoFar w x hung k) (lt : k < length hung) (is : one ≡ get_or hung k one) where
  pub still_empty : AreEmpty w hung → Distinct (map (λ h. h.list) hung) → get x one.list ≡ Some []
  still_empty empty apart =
      so one.list (subst (λ (h : Hung). Lacks h.list (map (λ h. h.list) (take k hung))) (sym is) (front_lacks hung k one lt apart))
      ∙ empty one (subst (λ (h : Hung). Has h hung) (sym is) (has_front hung k one lt))

  pub dropped_more : (y : Orders) → Updates x y one.list None → DroppedSoFar w y hung (k + 1)
  dropped_more y u = λ q l.
      let z = lacks_parts q hung k one lt (subst (λ n. Lacks q (map (λ h. h.list) (take n hung))) (add-one k) l) in
      u.others q (λ e. z.1 (ap (λ (h : Hung). h.list) (sym is) ∙ sym e)) ∙ so q z.0

pub dropped_all : (w x : Orders) (hung : List Hung) (k : ℕ) → DroppedSoFar w x hung k → length hung ≤ k → (q : ℕ) → Lacks q (map (λ h. h.list) hung) → get x q ≡ get w q
dropped_all w x hung k so le q l = so q (subst (λ hs. Lacks q (map (λ h. h.list) hs)) (sym (take_all k hung le)) l)

-- lists that were there lack those that were not
live_lacks : (v w : Orders) (q : ℕ) (hung : List Hung) → IsLive v q → ((h : Hung) → Has h hung → ¬ IsLive v h.list) → Lacks q (map (λ h. h.list) hung)
live_lacks v w q [] live own = tt
live_lacks v w q (h ∷ hs) live own = ((λ e. own h (inl refl) (live.0, ap (get v) e ∙ live.1)), live_lacks v w q hs live (λ y k. own y (inr k)))

pub all_dropped : (v w x : Orders) (hung : List Hung) → AreOwn v w hung → KeepsLists v w → ((q : ℕ) → Lacks q (map (λ h. h.list) hung) → get x q ≡ get w q) → KeepsLists v x
all_dropped v w x hung own keeps gone = λ q live. gone q (live_lacks v w q hung live (λ h k. (own.own h k).1)) ∙ keeps q live

-- there are as many lists as children
pub as_many : (children : List NewNode) (xs : List (Entry First)) → AreEntries no_child firsts_of (map leaf_of children) xs → length xs ≡ length children
as_many [] [] a = refl
as_many [] (x ∷ xs) a = absurd a
as_many (c ∷ cs) [] a = absurd a
as_many (c ∷ cs) (x ∷ xs) a = let h = as_many cs xs a.1 in omega (arith, h)

pub hung_many : (v w : Orders) (children : List NewNode) (family : Family) → HangsAll v w children family → length family.hung.items ≡ length children
hung_many v w children family h =
    let a = as_many children h.list h.are in let b = ap length h.items_are in let c = length-map family.hung.items (λ (y : Hung). y.item) in let d = length-map h.list (λ (y : Entry First). y.item) in
    omega (arith, a, b, c, d)
