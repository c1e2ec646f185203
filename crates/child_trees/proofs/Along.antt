-- The states along the leaves of a tree whose forks are sums.
use Rattle.std.proofs.Common.{◌≡◌, ℕ, zero, suc, ◌+◌, ◌-◌, ◌≤◌, min, Bool, true, false, List, [], ◌∷◌, ◌++◌, length, take, drop, refl, sym, ap, ◌∙◌, subst, inl, inr, arith, length-append}
use Rattle.std.proofs.lemmas.List.{map-append, length-map, take-append-le, take_all, take_min, length-take, drop_all}
use Rattle.std.proofs.lemmas.Bool.{cases_lt}
use Rattle.leaf_trees.specs.Tree.{Tree, leaf, fork, root, size, leaves, Has}
use Rattle.leaf_trees.proofs.Balanced.{length-leaves}
use Rattle.child_trees.specs.Lists.{Entry, acts_along, IsFirstDead, NoneIsDead}
use Rattle.leaf_trees.proofs.Held.{Has-root}
use Rattle.child_trees.specs.Laws.{SummaryLaws}
use Rattle.child_trees.specs.Sums.{entry_of, entries, AreSums}

pub length-entries : {Map : Type 0} (f : ℕ → Map) (t : Tree) → length (entries f t) ≡ size t
length-entries f t = length-map (leaves t) (entry_of f) ∙ length-leaves t

pub entries-fork : {Map : Type 0} (f : ℕ → Map) (i : ℕ) (l r : Tree) → entries f (fork i l r) ≡ entries f l ++ entries f r
entries-fork f i l r = map-append (entry_of f) (leaves l) (leaves r)

pub acts_along-append : {Map State : Type 0} (acts : Map → State → State) (s : State) (xs ys : List (Entry Map)) → acts_along acts s (xs ++ ys) ≡ acts_along acts (acts_along acts s xs) ys
acts_along-append acts s [] ys = refl
acts_along-append acts s (x ∷ xs) ys = acts_along-append acts (acts x.act s) xs ys

-- more of two lists than the first has
pub take_past : {X : Type 0} (n : ℕ) (xs ys : List X) → length xs ≤ n → take n (xs ++ ys) ≡ xs ++ take (n - length xs) ys
take_past n [] ys l = ap (λ k. take k ys) (let e : n ≡ n - 0 = omega arith in e)
take_past zero (x ∷ xs) ys l = absurd (omega arith)
take_past (suc n) (x ∷ xs) ys l = ap (λ zs. x ∷ zs) (take_past n xs ys (omega arith) ∙ ap (λ k. xs ++ take k ys) (let e : n - length xs ≡ suc n - suc (length xs) = omega arith in e))

-- what lies in two lists from a place on, up to another
pub between_append : {X : Type 0} (from to : ℕ) (xs ys : List X) → drop from (take to (xs ++ ys)) ≡ drop from (take to xs) ++ drop (from - length xs) (take (to - length xs) ys)
between_append {X = X} from to [] ys =
    ap (λ k. drop k (take to ys)) (let e : from ≡ from - 0 = omega arith in e)
    ∙ ap (λ k. drop (from - 0) (take k ys)) (let e : to ≡ to - 0 = omega arith in e)
    ∙ ap (λ zs. zs ++ drop (from - 0) (take (to - 0) ys)) (sym (drop_all from (take to none) (let e = length-take to none in omega (arith, e))))
  where
    none : List X
    none = []
between_append {X = X} from zero (x ∷ xs) ys =
    let a = drop_all from none (omega arith) in
    let b = drop_all (from - suc (length xs)) (take (0 - suc (length xs)) ys) (let e = length-take (0 - suc (length xs)) ys in omega (arith, e)) in
    a ∙ sym (λ k. a k ++ b k)
  where
    none : List X
    none = []
between_append zero (suc to) (x ∷ xs) ys =
    ap (λ zs. x ∷ zs) (between_append zero to xs ys)
    ∙ ap (λ k. x ∷ (take to xs ++ drop k (take (to - length xs) ys))) (let e : 0 - length xs ≡ 0 - suc (length xs) = omega arith in e)
    ∙ ap (λ k. x ∷ (take to xs ++ drop (0 - suc (length xs)) (take k ys))) (let e : to - length xs ≡ suc to - suc (length xs) = omega arith in e)
between_append (suc from) (suc to) (x ∷ xs) ys =
    between_append from to xs ys
    ∙ ap (λ k. drop from (take to xs) ++ drop k (take (to - length xs) ys)) (let e : from - length xs ≡ suc from - suc (length xs) = omega arith in e)
    ∙ ap (λ k. drop from (take to xs) ++ drop (suc from - suc (length xs)) (take k ys)) (let e : to - length xs ≡ suc to - suc (length xs) = omega arith in e)

module _ {Shape Map State : Type 0} (is_state : Shape → State → Type 0) (is_map : Shape → Map → Type 0) (unit : Shape → Map) (join : Map → Map → Map) (acts : Map → State → State) (is_dead : Shape → State → Bool) (laws : SummaryLaws is_state is_map unit join acts is_dead) (h : Shape) (f : ℕ → Map) where
  -- the root of a tree of sums has a map of the summary's, and acts as the leaves do
  pub acts_root : (t : Tree) → AreSums join f t → ((j : ℕ) → Has t j → is_map h (f j)) → (s : State) → is_state h s → acts (f (root t)) s ≡ acts_along acts s (entries f t)
  acts_root (leaf x) e m s i = refl
  acts_root (fork k l r) e m s i =
      let ml : is_map h (f (root l)) = m (root l) (inr (inl (Has-root l))) in
      let mr : is_map h (f (root r)) = m (root r) (inr (inr (Has-root r))) in
      let sl : is_state h (acts (f (root l)) s) = laws.acts_is h (f (root l)) s ml i in
      ap (λ x. acts x s) e.0 ∙ laws.acts_join h (f (root l)) (f (root r)) s ml mr i
      ∙ acts_root r e.2 (λ j k. m j (inr (inr k))) (acts (f (root l)) s) sl
      ∙ ap (λ x. acts_along acts x (entries f r)) (acts_root l e.1 (λ j k. m j (inr (inl k))) s i)
      ∙ sym (acts_along-append acts s (entries f l) (entries f r))
      ∙ ap (acts_along acts s) (sym (entries-fork f k l r))

  -- each entry has a map of the summary's
  abbrev pub AreActs : List (Entry Map) → Type 0
  AreActs [] = Unit {0}
  AreActs (x ∷ xs) = is_map h x.act × AreActs xs

  AreActs-append : (xs ys : List (Entry Map)) → AreActs xs → AreActs ys → AreActs (xs ++ ys)
  AreActs-append [] ys a b = b
  AreActs-append (x ∷ xs) ys a b = (a.0, AreActs-append xs ys a.1 b)

  pub AreActs-entries : (t : Tree) → ((j : ℕ) → Has t j → is_map h (f j)) → AreActs (entries f t)
  AreActs-entries (leaf x) m = (m x.number refl, tt)
  AreActs-entries (fork i l r) m =
      subst AreActs (sym (entries-fork f i l r))
      (AreActs-append (entries f l) (entries f r) (AreActs-entries l (λ j k. m j (inr (inl k)))) (AreActs-entries r (λ j k. m j (inr (inr k)))))

  -- entries lead from states to states
  pub along_is : (xs : List (Entry Map)) → AreActs xs → (s : State) → is_state h s → is_state h (acts_along acts s xs)
  along_is [] a s i = i
  along_is (x ∷ xs) a s i = along_is xs a.1 (acts x.act s) (laws.acts_is h x.act s a.0 i)

  -- a dead state stays dead
  along_dead : (xs : List (Entry Map)) → AreActs xs → (s : State) → is_state h s → is_dead h s ≡ true → is_dead h (acts_along acts s xs) ≡ true
  along_dead [] a s i d = d
  along_dead (x ∷ xs) a s i d = along_dead xs a.1 (acts x.act s) (laws.acts_is h x.act s a.0 i) (laws.stays_dead h x.act s a.0 i d)

  -- where the first entries lead to a dead state, all of them do
  dead_later : (k : ℕ) (xs : List (Entry Map)) → AreActs xs → (s : State) → is_state h s → is_dead h (acts_along acts s (take k xs)) ≡ true → is_dead h (acts_along acts s xs) ≡ true
  dead_later zero xs a s i d = along_dead xs a s i d
  dead_later (suc k) [] a s i d = d
  dead_later (suc k) (x ∷ xs) a s i d = dead_later k xs a.1 (acts x.act s) (laws.acts_is h x.act s a.0 i) d

  false_is : (b : Bool) → (b ≡ true → ⊥) → b ≡ false
  false_is true n = absurd (n refl)
  false_is false n = refl

  -- where all entries do not, no first ones do
  none_before : (xs : List (Entry Map)) → AreActs xs → (s : State) → is_state h s → is_dead h (acts_along acts s xs) ≡ false → (k : ℕ) → is_dead h (acts_along acts s (take k xs)) ≡ false
  none_before xs a s i alive k = false_is (is_dead h (acts_along acts s (take k xs))) (λ d. let e : true ≡ false = sym (dead_later k xs a s i d) ∙ alive in cc)

  pub none_dead : (xs : List (Entry Map)) → AreActs xs → (s : State) → is_state h s → is_dead h (acts_along acts s xs) ≡ false → NoneIsDead acts (is_dead h) s xs
  none_dead xs a s i alive = λ k l. none_before xs a s i alive (k + 1)

  pub first_one : (s : State) (e : Entry Map) → is_dead h (acts e.act s) ≡ true → IsFirstDead acts (is_dead h) s (e ∷ []) 0
  first_one s e d = record { within = omega arith; dead = d; before = λ k l. absurd (omega arith) }

  pub first_left : (s : State) (xs ys : List (Entry Map)) (p : ℕ) → IsFirstDead acts (is_dead h) s xs p → IsFirstDead acts (is_dead h) s (xs ++ ys) p
  first_left s xs ys p d =
      let w = d.within in
      record {
        within = omega (arith, length-append xs ys);
        dead = ap (λ zs. is_dead h (acts_along acts s zs)) (take-append-le (p + 1) xs ys (omega arith)) ∙ d.dead;
        before = λ k l. ap (λ zs. is_dead h (acts_along acts s zs)) (take-append-le (k + 1) xs ys (omega arith)) ∙ d.before k l;
      }

  pub first_right : (s : State) (xs ys : List (Entry Map)) (p n : ℕ) → is_state h s → AreActs xs → n ≡ length xs → is_dead h (acts_along acts s xs) ≡ false → IsFirstDead acts (is_dead h) (acts_along acts s xs) ys p → IsFirstDead acts (is_dead h) s (xs ++ ys) (n + p)
  first_right s xs ys p n i a e alive d =
      let w = d.within in
      record {
        within = omega (arith, length-append xs ys);
        dead = right p ∙ d.dead;
        before = λ k l. elim (cases_lt k (length xs)) [
          | inl b ↦ ap (λ zs. is_dead h (acts_along acts s zs)) (take-append-le (k + 1) xs ys (omega arith)) ∙ none_before xs a s i alive (k + 1)
          | inr g ↦ ap (λ q. is_dead h (acts_along acts s (take (q + 1) (xs ++ ys)))) (let q : k ≡ n + (k - n) = omega arith in q) ∙ right (k - n) ∙ d.before (k - n) (omega arith)
        ];
      }
    where
      right : (k : ℕ) → is_dead h (acts_along acts s (take (n + k + 1) (xs ++ ys))) ≡ is_dead h (acts_along acts (acts_along acts s xs) (take (k + 1) ys))
      right k =
          ap (λ zs. is_dead h (acts_along acts s zs)) (take_past (n + k + 1) xs ys (omega arith) ∙ ap (λ q. xs ++ take q ys) (let q : n + k + 1 - length xs ≡ k + 1 = omega arith in q))
          ∙ ap (is_dead h) (acts_along-append acts s xs (take (k + 1) ys))

module _ {Map : Type 0} (f : ℕ → Map) (t : Tree) (i : ℕ) (l r : Tree) (is : t ≡ fork i l r) where
  pub entries-sides : entries f t ≡ entries f l ++ entries f r
  entries-sides = ap (entries f) is ∙ entries-fork f i l r

  -- the entries from a place on, up to another, on both sides
  pub between_sides : (from to n p q : ℕ) → n ≡ size l → p ≡ from - n → q ≡ to - n → drop from (take to (entries f t)) ≡ drop from (take to (entries f l)) ++ drop p (take q (entries f r))
  between_sides from to n p q e ep eq =
      let m : length (entries f l) ≡ n = length-entries f l ∙ sym e in
      ap (λ zs. drop from (take to zs)) entries-sides ∙ between_append from to (entries f l) (entries f r)
      ∙ ap (λ k. drop from (take to (entries f l)) ++ drop (from - k) (take (to - k) (entries f r))) m
      ∙ (λ k. drop from (take to (entries f l)) ++ drop (sym ep k) (take (sym eq k) (entries f r)))

module _ {Map : Type 0} (f : ℕ → Map) (t : Tree) where
  -- none past the last
  pub between_upto : (from to : ℕ) → drop from (take (min to (size t)) (entries f t)) ≡ drop from (take to (entries f t))
  between_upto from to = ap (λ n. drop from (take (min to n) (entries f t))) (sym (length-entries f t)) ∙ ap (drop from) (take_min to (entries f t))

  pub between_none : (from to : ℕ) → to ≤ from → drop from (take to (entries f t)) ≡ []
  between_none from to le = drop_all from (take to (entries f t)) (omega (arith, le, length-take to (entries f t)))

  pub between_all : (from to : ℕ) → from ≡ 0 → size t ≤ to → drop from (take to (entries f t)) ≡ entries f t
  between_all from to e le = ap (λ k. drop k (take to (entries f t))) e ∙ take_all to (entries f t) (omega (arith, le, length-entries f t))
