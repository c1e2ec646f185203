-- What a tree tells of its items.
use Rattle.std.proofs.Common.{◌≡◌, ℕ, suc, ◌+◌, ◌-◌, ◌<◌, ◌≤◌, true, false, cond, List, [], ◌∷◌, ◌++◌, map, filter, take, length, get_or, refl, sym, ap, ◌∙◌, subst, inl, inr, arith, length-append}
use Rattle.std.proofs.lemmas.Bool.{cases_lt}
use Rattle.std.proofs.lemmas.List.{map-append, get_or_append_left, get_or-append_right, take-append-le, length-take}
use Rattle.std.proofs.Math.Seq.{take-append-add}
use Rattle.std.proofs.lemmas.List.Elements.{filter-append}
use Rattle.leaf_trees.specs.declared.side.Side.{Side}
use Rattle.leaf_trees.specs.declared.side.Side.TheVariants.{Left, Right}
use Rattle.leaf_trees.specs.declared.side.Way.{Way}
use Rattle.leaf_trees.specs.Side.{on, way_to}
use Rattle.leaf_trees.specs.Tree.{Item, Tree, leaf, fork, size, counts, leaves, bit, marked_items, elements_before, IsItemAt}
use Rattle.leaf_trees.proofs.Balanced.{length-leaves}
use Rattle.leaf_trees.proofs.Items.{items_left, items_right}
use Rattle.leaf_trees.proofs.Lean.{lt_is, ge_is}

-- an item of the side that the way goes to is one of the fork
item_left : (k i b : ℕ) (l r : Tree) → IsItemAt l k i → IsItemAt (fork b l r) k i
item_left k i b l r A = record { within = (let w = A.within in omega arith); is = items_left l r k A.within ∙ A.is }

item_right : (k i b : ℕ) (l r : Tree) → size l ≤ k → IsItemAt r (k - size l) i → IsItemAt (fork b l r) k i
item_right k i b l r ge A = record { within = (let w = A.within in omega arith); is = items_right l r k ge ∙ A.is }

pub item_on_way : (w : Way) (k n i b : ℕ) (l r : Tree) → w ≡ way_to k n → n ≡ size l → IsItemAt (on w.side l r) w.place i → IsItemAt (fork b l r) k i
item_on_way w k n i b l r e m A = elim (cases_lt k (size l)) [
  | inl h ↦
      (let e' : w ≡ record { side = Left; place = k } = e ∙ ap (way_to k) m ∙ rw (lt_is k (size l) h) refl in
      item_left k i b l r (subst (λ v. IsItemAt (on v.side l r) v.place i) e' A))
  | inr h ↦
      (let e' : w ≡ record { side = Right; place = k - size l } = e ∙ ap (way_to k) m ∙ rw (ge_is k (size l) h) refl in
      item_right k i b l r h (subst (λ v. IsItemAt (on v.side l r) v.place i) e' A))
]

-- the marked leaves are as many as are counted
marked-append : (xs ys : List Item) → map (λ x. x.number) (filter (λ x. x.marked) (xs ++ ys)) ≡ map (λ x. x.number) (filter (λ x. x.marked) xs) ++ map (λ x. x.number) (filter (λ x. x.marked) ys)
marked-append xs ys = ap (map (λ x. x.number)) (filter-append (λ x. x.marked) xs ys) ∙ map-append (λ x. x.number) (filter (λ x. x.marked) xs) (filter (λ x. x.marked) ys)

pub marked_counted : (t : Tree) → (counts t).marked ≡ length (marked_items t)
marked_counted (leaf x) = elim x.marked as (λ b. bit b ≡ length (map (λ y. y.number) (cond b (x ∷ []) []))) [ true ↦ refl | false ↦ refl ]
marked_counted (fork i l r) = let a = marked_counted l in let b = marked_counted r in let e = ap length (marked-append (leaves l) (leaves r)) in let n = length-append (marked_items l) (marked_items r) in omega arith

-- a marked leaf of the fork is one of the side that the way goes to
pub record MarkedOn (s : Side) (k j b : ℕ) (l r : Tree) : Type 0 where
  pub within : k < length (marked_items (fork b l r)) → j < length (marked_items (on s l r))
  pub is : get_or (marked_items (fork b l r)) k 0 ≡ get_or (marked_items (on s l r)) j 0

marked_left : (k b : ℕ) (l r : Tree) → k < (counts l).marked → MarkedOn Left k k b l r
marked_left k b l r h =
    let m = marked_counted l in
    record { within = λ g. omega arith; is = ap (λ (xs : List ℕ). get_or xs k 0) (marked-append (leaves l) (leaves r)) ∙ get_or_append_left (marked_items l) (marked_items r) 0 k (omega arith) }

marked_right : (k b : ℕ) (l r : Tree) → (counts l).marked ≤ k → MarkedOn Right k (k - (counts l).marked) b l r
marked_right k b l r h =
    let all = marked_counted (fork b l r) in let of_right = marked_counted r in
    record { within = λ g. omega arith; is = ap (λ (xs : List ℕ). get_or xs k 0) (marked-append (leaves l) (leaves r)) ∙ get_or-append_right (marked_items l) (marked_items r) (counts l).marked k 0 (sym (marked_counted l)) h }

pub marked_on_way : (w : Way) (k n b : ℕ) (l r : Tree) → w ≡ way_to k n → n ≡ (counts l).marked → MarkedOn w.side k w.place b l r
marked_on_way w k n b l r e m = elim (cases_lt k (counts l).marked) [
  | inl h ↦
      (let e' : w ≡ record { side = Left; place = k } = e ∙ ap (way_to k) m ∙ rw (lt_is k (counts l).marked h) refl in
      subst (λ v. MarkedOn v.side k v.place b l r) (sym e') (marked_left k b l r h))
  | inr h ↦
      (let e' : w ≡ record { side = Right; place = k - (counts l).marked } = e ∙ ap (way_to k) m ∙ rw (ge_is k (counts l).marked h) refl in
      subst (λ v. MarkedOn v.side k v.place b l r) (sym e') (marked_right k b l r h))
]

-- elements
length_elements-append : (xs ys : List Item) → length (filter (λ x. x.element) (xs ++ ys)) ≡ length (filter (λ x. x.element) xs) + length (filter (λ x. x.element) ys)
length_elements-append xs ys = ap length (filter-append (λ x. x.element) xs ys) ∙ length-append (filter (λ x. x.element) xs) (filter (λ x. x.element) ys)

pub elements_counted : (t : Tree) → (counts t).elements ≡ length (filter (λ x. x.element) (leaves t))
elements_counted (leaf x) = elim x.element as (λ b. bit b ≡ length (cond b (x ∷ []) [])) [ true ↦ refl | false ↦ refl ]
elements_counted (fork i l r) = let a = elements_counted l in let b = elements_counted r in let e = length_elements-append (leaves l) (leaves r) in omega arith

pub elements_left : (i : ℕ) (l r : Tree) (place : ℕ) → place ≤ size l → elements_before (fork i l r) place ≡ elements_before l place
elements_left i l r place h = ap (λ (xs : List Item). length (filter (λ x. x.element) xs)) (take-append-le place (leaves l) (leaves r) (let n = length-leaves l in omega arith))

at_seam : (m n p : ℕ) → m ≡ n → n ≤ p → p ≡ m + (p - n)
at_seam m n p e g = omega arith

split : (xs ys : List Item) (n p : ℕ) → length xs ≡ n → n ≤ p → take p (xs ++ ys) ≡ xs ++ take (p - n) ys
split xs ys n p e g = ap (λ j. take j (xs ++ ys)) (at_seam (length xs) n p e g) ∙ take-append-add xs ys (p - n)

pub elements_right : (i : ℕ) (l r : Tree) (place : ℕ) → size l ≤ place → elements_before (fork i l r) place ≡ (counts l).elements + elements_before r (place - size l)
elements_right i l r place h =
    ap (λ (xs : List Item). length (filter (λ x. x.element) xs)) (split (leaves l) (leaves r) (size l) place (length-leaves l) h)
    ∙ length_elements-append (leaves l) (take (place - size l) (leaves r))
    ∙ ap (λ n. n + elements_before r (place - size l)) (sym (elements_counted l))

length_elements : (xs : List Item) → length (filter (λ x. x.element) xs) ≤ length xs
length_elements [] = omega arith
length_elements (x ∷ xs) = elim x.element as (λ b. length (cond b (x ∷ filter (λ y. y.element) xs) (filter (λ y. y.element) xs)) ≤ suc (length xs)) [ true ↦ (let h = length_elements xs in omega arith) | false ↦ (let h = length_elements xs in omega arith) ]

pub elements_most : (t : Tree) (place : ℕ) → elements_before t place ≤ size t
elements_most t place = let h = length_elements (take place (leaves t)) in let n = length-take place (leaves t) in let m = length-leaves t in omega arith
