-- The links of the elements of a forest, by their places.
use Rattle.std.proofs.Common.{◌≡◌, ◌⊎◌, ◌+◌, ◌<◌, ◌≤◌, ℕ, zero, suc, false, List, [], ◌∷◌, ◌++◌, length, inl, inr, Option, None, Some, refl, sym, ap, ◌∙◌, arith, append_assoc, append-nil}
use Rattle.std.specs.Prelude.{slice_get}
use Rattle.std.specs.Option.{option_and_then}
use Rattle.std.proofs.lemmas.List.{length-append}
use Rattle.identity_constraints.specs.Counting.{firsts, StandFor}
use Rattle.key_records.specs.Tables.{AreParents}
use Rattle.identity_constraints.specs.Seen.{KeyForest, none, element}
use Rattle.path_walk.specs.inside.Walk.{size}
use Rattle.forest_keys.specs.inside.Places.{placed, parents_along}
use Rattle.forest_keys.proofs.Linking.{is_of, with_first, children_from, links_of, of-itself, of-off, children-append}

abbrev joined : Option (Option ℕ) → Option ℕ
joined found = option_and_then (λ (o : Option ℕ). o) found

none-some : (p : ℕ) → None ≡ Some p → ⊥
none-some p e = cc

some-is : (a b : ℕ) → Some a ≡ Some b → a ≡ b
some-is a b e = cc

pub parents-length : (q : ℕ) (parent : Option ℕ) (g : KeyForest) → length (parents_along q parent g) ≡ size g
parents-length q parent none = refl
parents-length q parent (element own below next) =
    let one = parents-length (q + 1) (Some q) below in
    let two = parents-length (q + 1 + size below) parent next in
    let all = length-append (parents_along (q + 1) (Some q) below) (parents_along (q + 1 + size below) parent next) in
    omega (arith, one, two, all)

-- ---- parents are before

abbrev AreBefore : ℕ → List (Option ℕ) → Type 0
AreBefore i qs = (j p : ℕ) → joined (slice_get qs j) ≡ Some p → p < i + j

before-cons : (i : ℕ) (x : Option ℕ) (xs : List (Option ℕ)) → ((p : ℕ) → x ≡ Some p → p < i) → AreBefore (i + 1) xs → AreBefore i (x ∷ xs)
before-cons i x xs first rest zero p e = let h = first p e in omega (arith, h)
before-cons i x xs first rest (suc j) p e = let h = rest j p e in omega (arith, h)

before-append : (i : ℕ) (xs ys : List (Option ℕ)) → AreBefore i xs → AreBefore (i + length xs) ys → AreBefore i (xs ++ ys)
before-append i [] ys one two = λ j p e. let h = two j p e in omega (arith, h)
before-append i (x ∷ xs) ys one two =
    before-cons i x (xs ++ ys) (λ p e. let h = one 0 p e in omega (arith, h))
    (before-append (i + 1) xs ys (λ j p e. let h = one (suc j) p e in omega (arith, h)) (λ j p e. let h = two j p e in omega (arith, h)))

parents-before : (q : ℕ) (parent : Option ℕ) (g : KeyForest) → ((a : ℕ) → parent ≡ Some a → a < q) → AreBefore q (parents_along q parent g)
parents-before q parent none less = λ j p e. absurd (none-some p e)
parents-before q parent (element own below next) less =
    let xs = parents_along (q + 1) (Some q) below in
    let long = parents-length (q + 1) (Some q) below in
    let under = parents-before (q + 1) (Some q) below (λ a e. let same = some-is q a e in omega (arith, same)) in
    let behind = parents-before (q + 1 + size below) parent next (λ a e. let h = less a e in omega (arith, h)) in
    before-cons q parent (xs ++ parents_along (q + 1 + size below) parent next) less
    (before-append (q + 1) xs (parents_along (q + 1 + size below) parent next) under (λ j p e. let h = behind j p e in omega (arith, h, long)))

pub are_parents : (f : KeyForest) (parents : List (Option ℕ)) → parents ≡ parents_along 0 None f → AreParents (links_of parents) parents
are_parents f parents e = record {
  parents_are = λ n. refl;
  before = λ n p at.
      let h = parents-before 0 None f (λ a is. absurd (none-some a is)) n p (ap (λ (qs : List (Option ℕ)). joined (slice_get qs n)) (sym e) ∙ at) in omega (arith, h);
}

-- ---- children are those of the forest

apart-off : (q p : ℕ) → (q ≡ p → ⊥) → is_of p (Some q) ≡ false
apart-off q p off = of-off p (Some q) (λ e. off (some-is q p e))

less-off : (parent : Option ℕ) (q p : ℕ) → ((a : ℕ) → parent ≡ Some a → a < q) → q ≤ p → is_of p parent ≡ false
less-off parent q p less h = of-off p parent (λ e. let l = less p e in absurd (omega (arith, l, h)))

-- siblings with another parent, where the place is none of theirs
no-children : (q : ℕ) (parent : Option ℕ) (g : KeyForest) (p : ℕ) → is_of p parent ≡ false → (p < q) ⊎ (q + size g ≤ p) → children_from q (parents_along q parent g) p ≡ []
no-children q parent none p off out = refl
no-children q parent (element own below next) p off out =
    let xs = parents_along (q + 1) (Some q) below in
    let ys = parents_along (q + 1 + size below) parent next in
    let long = parents-length (q + 1) (Some q) below in
    let at : q + 1 + length xs ≡ q + 1 + size below = omega (arith, long) in
    let under : children_from (q + 1) xs p ≡ [] =
    no-children (q + 1) (Some q) below p (apart-off q p (λ e. elim out [ inl h ↦ absurd (omega (arith, h, e)) | inr h ↦ absurd (omega (arith, h, e)) ]))
    (elim out [ inl h ↦ inl (omega (arith, h)) | inr h ↦ inr (omega (arith, h)) ]) in
    let behind : children_from (q + 1 + length xs) ys p ≡ [] =
    ap (λ n. children_from n ys p) at ∙ no-children (q + 1 + size below) parent next p off (elim out [ inl h ↦ inl (omega (arith, h)) | inr h ↦ inr (omega (arith, h)) ]) in
    ap (λ b. with_first b q (children_from (q + 1) (xs ++ ys) p)) off ∙ children-append (q + 1) xs ys p ∙ (λ i. under i ++ behind i)

-- siblings with this parent
own-children : (q p : ℕ) (g : KeyForest) → p < q → children_from q (parents_along q (Some p) g) p ≡ firsts (placed q g)
own-children q p none less = refl
own-children q p (element own below next) less =
    let xs = parents_along (q + 1) (Some q) below in
    let ys = parents_along (q + 1 + size below) (Some p) next in
    let long = parents-length (q + 1) (Some q) below in
    let at : q + 1 + length xs ≡ q + 1 + size below = omega (arith, long) in
    let under : children_from (q + 1) xs p ≡ [] = no-children (q + 1) (Some q) below p (apart-off q p (λ e. absurd (omega (arith, less, e)))) (inl (omega (arith, less))) in
    let behind : children_from (q + 1 + length xs) ys p ≡ firsts (placed (q + 1 + size below) next) =
    ap (λ n. children_from n ys p) at ∙ own-children (q + 1 + size below) p next (omega (arith, less)) in
    ap (λ b. with_first b q (children_from (q + 1) (xs ++ ys) p)) (of-itself p (Some p) refl)
    ∙ ap (λ cs. q ∷ cs) (children-append (q + 1) xs ys p ∙ (λ i. under i ++ behind i))

-- an element with what is below it and behind it, in front of others and behind others
module _ (all front back : List (Option ℕ)) (q : ℕ) (parent : Option ℕ) (below next : KeyForest) (long : length front ≡ q) (before : (p : ℕ) → q ≤ p → children_from 0 front p ≡ [])
    (after : (p : ℕ) → q ≤ p → p < q + (1 + size below + size next) → children_from (q + (1 + size below + size next)) back p ≡ []) (less : (a : ℕ) → parent ≡ Some a → a < q)
    (e : all ≡ front ++ ((parent ∷ (parents_along (q + 1) (Some q) below ++ parents_along (q + 1 + size below) parent next)) ++ back)) where
  abbrev xs : List (Option ℕ)
  xs = parents_along (q + 1) (Some q) below

  abbrev ys : List (Option ℕ)
  ys = parents_along (q + 1 + size below) parent next

  xs-long : length xs ≡ size below
  xs-long = parents-length (q + 1) (Some q) below

  ys-long : length ys ≡ size next
  ys-long = parents-length (q + 1 + size below) parent next

  parent-off : (p : ℕ) → q ≤ p → is_of p parent ≡ false
  parent-off p h = less-off parent q p less h

  back-none : (p : ℕ) → q ≤ p → p < q + (1 + size below + size next) → children_from (q + 1 + size below + length ys) back p ≡ []
  back-none p h k =
      let many = ys-long in
      let at : q + 1 + size below + length ys ≡ q + (1 + size below + size next) = omega (arith, many) in
      ap (λ m. children_from m back p) at ∙ after p h k

  -- those behind an element and what is below it are no children of it
  behind-none : (p : ℕ) → q ≤ p → p < q + 1 + size below → children_from (q + 1 + size below) (ys ++ back) p ≡ []
  behind-none p h k =
      children-append (q + 1 + size below) ys back p
      ∙ (λ i. no-children (q + 1 + size below) parent next p (parent-off p h) (inl k) i ++ back-none p h (omega (arith, k)) i)

  inner : children_from (q + 1) ((xs ++ ys) ++ back) q ≡ firsts (placed (q + 1) below)
  inner =
      let many = xs-long in
      let at : q + 1 + length xs ≡ q + 1 + size below = omega (arith, many) in
      let rest : children_from (q + 1 + length xs) (ys ++ back) q ≡ [] = ap (λ m. children_from m (ys ++ back) q) at ∙ behind-none q (omega arith) (omega arith) in
      let mine = own-children (q + 1) q below (omega arith) in
      ap (λ (l : List (Option ℕ)). children_from (q + 1) l q) (append_assoc xs ys back) ∙ children-append (q + 1) xs (ys ++ back) q
      ∙ (λ i. mine i ++ rest i) ∙ append-nil (firsts (placed (q + 1) below))

  children-are : children_from 0 all q ≡ firsts (placed (q + 1) below)
  children-are =
      let at : 0 + length front + 1 ≡ q + 1 = omega (arith, long) in
      let out = before q (omega arith) in
      let off = parent-off q (omega arith) in
      ap (λ (l : List (Option ℕ)). children_from 0 l q) e ∙ children-append 0 front ((parent ∷ (xs ++ ys)) ++ back) q
      ∙ (λ i. out i ++ children_from (0 + length front) (parent ∷ ((xs ++ ys) ++ back)) q)
      ∙ ap (λ b. with_first b (0 + length front) (children_from (0 + length front + 1) ((xs ++ ys) ++ back) q)) off
      ∙ ap (λ m. children_from m ((xs ++ ys) ++ back) q) at ∙ inner

  below-whole : all ≡ (front ++ parent ∷ []) ++ (xs ++ (ys ++ back))
  below-whole = e ∙ ap (λ (l : List (Option ℕ)). front ++ parent ∷ l) (append_assoc xs ys back) ∙ sym (append_assoc front (parent ∷ []) (xs ++ (ys ++ back)))

  below-long : length (front ++ parent ∷ []) ≡ q + 1
  below-long = let l = length-append front (parent ∷ []) in omega (arith, l, long)

  below-before : (p : ℕ) → q + 1 ≤ p → children_from 0 (front ++ parent ∷ []) p ≡ []
  below-before p h =
      let out = before p (omega (arith, h)) in
      let off = parent-off p (omega (arith, h)) in
      children-append 0 front (parent ∷ []) p ∙ (λ i. out i ++ with_first (off i) (0 + length front) [])

  below-after : (p : ℕ) → q + 1 ≤ p → p < q + 1 + size below → children_from (q + 1 + size below) (ys ++ back) p ≡ []
  below-after p h k = behind-none p (omega (arith, h)) k

  next-whole : all ≡ (front ++ parent ∷ xs) ++ (ys ++ back)
  next-whole = e ∙ ap (λ (l : List (Option ℕ)). front ++ parent ∷ l) (append_assoc xs ys back) ∙ sym (append_assoc front (parent ∷ xs) (ys ++ back))

  next-long : length (front ++ parent ∷ xs) ≡ q + 1 + size below
  next-long = let l = length-append front (parent ∷ xs) in let many = xs-long in omega (arith, l, long, many)

  next-before : (p : ℕ) → q + 1 + size below ≤ p → children_from 0 (front ++ parent ∷ xs) p ≡ []
  next-before p h =
      let out = before p (omega (arith, h)) in
      let off = parent-off p (omega (arith, h)) in
      let at : 0 + length front + 1 ≡ q + 1 = omega (arith, long) in
      children-append 0 front (parent ∷ xs) p ∙ (λ i. out i ++ with_first (off i) (0 + length front) (children_from (0 + length front + 1) xs p))
      ∙ ap (λ m. children_from m xs p) at ∙ no-children (q + 1) (Some q) below p (apart-off q p (λ same. absurd (omega (arith, h, same)))) (inr h)

  next-after : (p : ℕ) → q + 1 + size below ≤ p → p < q + 1 + size below + size next → children_from (q + 1 + size below + size next) back p ≡ []
  next-after p h k =
      let at : q + 1 + size below + size next ≡ q + (1 + size below + size next) = omega arith in
      ap (λ m. children_from m back p) at ∙ after p (omega (arith, h)) (omega (arith, k))

-- a part of a forest, in front of others and behind others
pub part-stands : (all front back : List (Option ℕ)) (q : ℕ) (parent : Option ℕ) (g : KeyForest) → all ≡ front ++ (parents_along q parent g ++ back) → length front ≡ q
    → ((p : ℕ) → q ≤ p → children_from 0 front p ≡ []) → ((p : ℕ) → q ≤ p → p < q + size g → children_from (q + size g) back p ≡ []) → ((a : ℕ) → parent ≡ Some a → a < q)
    → StandFor (links_of all) (placed q g)
part-stands all front back q parent none e long before after less = tt
part-stands all front back q parent (element own below next) e long before after less = (
  children-are all front back q parent below next long before after less e,
  part-stands all (front ++ parent ∷ []) (parents_along (q + 1 + size below) parent next ++ back) (q + 1) (Some q) below (below-whole all front back q parent below next long before after less e)
      (below-long all front back q parent below next long before after less e) (below-before all front back q parent below next long before after less e) (below-after all front back q parent below next long before after less e)
      (λ a is. let same = some-is q a is in omega (arith, same)),
  part-stands all (front ++ parent ∷ parents_along (q + 1) (Some q) below) back (q + 1 + size below) parent next (next-whole all front back q parent below next long before after less e)
      (next-long all front back q parent below next long before after less e) (next-before all front back q parent below next long before after less e) (next-after all front back q parent below next long before after less e)
      (λ a is. let h = less a is in omega (arith, h)),
)

pub forest_stands : (f : KeyForest) (parents : List (Option ℕ)) → parents ≡ parents_along 0 None f → StandFor (links_of parents) (placed 0 f)
forest_stands f parents e =
    part-stands parents [] [] 0 None f (e ∙ sym (append-nil (parents_along 0 None f))) refl (λ p h. refl) (λ p h k. refl) (λ a is. absurd (none-some a is))
