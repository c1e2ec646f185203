-- Which forks a change of a tree leaves as they were.
use Rattle.std.proofs.Common.{◌≡◌, ◌≢◌, ◌⊎◌, ℕ, zero, suc, ◌+◌, ◌-◌, ◌<◌, ◌≤◌, refl, sym, ap, ◌∙◌, subst, inl, inr, arith}
use Rattle.std.specs.Prelude.{nat_lt, MatchBool}
use Rattle.std.proofs.lemmas.Bool.{cases_lt}
use Rattle.leaf_trees.specs.declared.node.Flags.{Flags}
use Rattle.leaf_trees.specs.declared.side.Side.{Side}
use Rattle.leaf_trees.specs.declared.side.Side.TheVariants.{Left, Right}
use Rattle.leaf_trees.specs.Tree.{Item, Tree, leaf, fork, size, height, IsAvl, IsPart}
use Rattle.leaf_trees.specs.Side.{other, fork_on, place_on}
use Rattle.leaf_trees.specs.Balance.{turned, heavy, balanced, put_in, flag_at, HasOldSides, ChangesAlong}
use Rattle.leaf_trees.proofs.Lean.{le_is, gt_is, lt_is, ge_is, balanced_high, balanced_even}
use Rattle.leaf_trees.proofs.Turns.{size-fork_on}
use Rattle.leaf_trees.proofs.Leaned.{leaned, IsEven, even_sides, height-fork_on, other_fork}
use Rattle.leaf_trees.proofs.Put.{avl-put_in, size-put_in}
use Rattle.leaf_trees.proofs.Flag.{size-flag_at}

-- parts
pub part_itself : (t : Tree) → IsPart t t
part_itself (leaf x) = refl
part_itself (fork i l r) = inl refl

pub left_part : (i : ℕ) (l r : Tree) → IsPart (fork i l r) l
left_part i l r = inr (inl (part_itself l))

pub right_part : (i : ℕ) (l r : Tree) → IsPart (fork i l r) r
right_part i l r = inr (inr (part_itself r))

pub part_trans : (w t x : Tree) → IsPart w t → IsPart t x → IsPart w x
part_trans (leaf y) t x p q = subst (λ (z : Tree). IsPart z x) p q
part_trans (fork i l r) t x p q = elim p [ inl e ↦ subst (λ (z : Tree). IsPart z x) e q | inr y ↦ elim y [ inl a ↦ inr (inl (part_trans l t x a q)) | inr a ↦ inr (inr (part_trans r t x a q)) ] ]

pub part_left : (w : Tree) (i : ℕ) (l r : Tree) → IsPart w (fork i l r) → IsPart w l
part_left w i l r p = part_trans w (fork i l r) l p (left_part i l r)

pub part_right : (w : Tree) (i : ℕ) (l r : Tree) → IsPart w (fork i l r) → IsPart w r
part_right w i l r p = part_trans w (fork i l r) r p (right_part i l r)

-- a part has the sides that it had
pub sides_of_part : (w t : Tree) → IsPart w t → HasOldSides w t
sides_of_part w (leaf x) p = tt
sides_of_part w (fork i l r) p = (part_left w i l r p, part_right w i l r p)

pub sides_wider : (w W t : Tree) → ((x : Tree) → IsPart w x → IsPart W x) → HasOldSides w t → HasOldSides W t
sides_wider w W (leaf x) more h = tt
sides_wider w W (fork i l r) more h = (more l h.0, more r h.1)

-- the way goes to a side
pub go_left : (w : Tree) (k i : ℕ) (l r : Tree) → k < size l → ChangesAlong w k l → HasOldSides w r → ChangesAlong w k (fork i l r)
go_left w k i l r h a s = rw (lt_is k (size l) h) (a, s)

pub go_right : (w : Tree) (k i : ℕ) (l r : Tree) → size l ≤ k → HasOldSides w l → ChangesAlong w (k - size l) r → ChangesAlong w k (fork i l r)
go_right w k i l r h s a = rw (ge_is k (size l) h) (s, a)

pub along_wider : (w W : Tree) (k : ℕ) (t : Tree) → ((x : Tree) → IsPart w x → IsPart W x) → ChangesAlong w k t → ChangesAlong W k t
along_wider w W k (leaf x) more h = tt
along_wider w W k (fork i l r) more h =
    elim (cases_lt k (size l)) [
      | inl lt ↦ (let g = rw (lt_is k (size l) lt) at h in go_left W k i l r lt (along_wider w W k l more g.0) (sides_wider w W r more g.1))
      | inr ge ↦ (let g = rw (ge_is k (size l) ge) at h in go_right W k i l r ge (sides_wider w W l more g.0) (along_wider w W (k - size l) r more g.1))
    ]

pub along_part : (w : Tree) (k : ℕ) (t : Tree) → IsPart w t → ChangesAlong w k t
along_part w k (leaf x) p = tt
along_part w k (fork i l r) p =
    elim (cases_lt k (size l)) [
      | inl lt ↦ go_left w k i l r lt (along_part w k l (part_left w i l r p)) (sides_of_part w r (part_right w i l r p))
      | inr ge ↦ go_right w k i l r ge (sides_of_part w l (part_left w i l r p)) (along_part w (k - size l) r (part_right w i l r p))
    ]

-- the same by side
pub part_here : (s : Side) (i : ℕ) (t u x : Tree) → IsPart t x → IsPart (fork_on s i t u) x
part_here Left i t u x p = inr (inl p)
part_here Right i t u x p = inr (inr p)

pub part_there : (s : Side) (i : ℕ) (t u : Tree) → IsPart (fork_on s i t u) u
part_there Left i t u = right_part i t u
part_there Right i t u = left_part i u t

pub parts_on : (s : Side) (w : Tree) (i : ℕ) (t u : Tree) → IsPart w (fork_on s i t u) → IsPart w t × IsPart w u
parts_on Left w i t u p = (part_left w i t u p, part_right w i t u p)
parts_on Right w i t u p = (part_right w i u t p, part_left w i u t p)

pub sides_on : (s : Side) (w : Tree) (i : ℕ) (t u : Tree) → IsPart w t → IsPart w u → HasOldSides w (fork_on s i t u)
sides_on Left w i t u p q = (p, q)
sides_on Right w i t u p q = (q, p)

pub go : (s : Side) (w : Tree) (k i : ℕ) (t u : Tree) → k < size t → ChangesAlong w k t → HasOldSides w u → ChangesAlong w (place_on s (size u) k) (fork_on s i t u)
go Left w k i t u h a o = go_left w k i t u h a o
go Right w k i t u h a o = let e : k ≡ (size u + k) - size u = omega arith in go_right w (size u + k) i u t (omega arith) o (subst (λ j. ChangesAlong w j t) e a)

-- and to a part of that side, where the place is known
pub go_to : (s : Side) (w : Tree) (k p i : ℕ) (t u : Tree) → k < size t → ChangesAlong w k t → HasOldSides w u → place_on s (size u) k ≡ p → ChangesAlong w p (fork_on s i t u)
go_to s w k p i t u h a o e = subst (λ j. ChangesAlong w j (fork_on s i t u)) e (go s w k i t u h a o)

pub place_within : (s : Side) (k i : ℕ) (t u : Tree) → k < size t → place_on s (size u) k < size (fork_on s i t u)
place_within Left k i t u h = omega arith
place_within Right k i t u h = omega arith

pub back : (k n : ℕ) → n ≤ k → n + (k - n) ≡ k
back k n h = omega arith

-- other flags
flag_on : (f : Flags) (s : Side) (k b : ℕ) (t u : Tree) → k < size t → ChangesAlong t k (flag_at f k t) → ChangesAlong (fork_on s b t u) (place_on s (size u) k) (fork_on s b (flag_at f k t) u)
flag_on f s k b t u h a = go s (fork_on s b t u) k b (flag_at f k t) u (let e = size-flag_at f k t in omega arith)
    (along_wider t (fork_on s b t u) k (flag_at f k t) (part_here s b t u) a) (sides_of_part (fork_on s b t u) u (part_there s b t u))

pub along-flag_at : (f : Flags) (k : ℕ) (t : Tree) → k < size t → ChangesAlong t k (flag_at f k t)
along-flag_at f k (leaf x) h = tt
along-flag_at f k (fork b l r) h =
    elim (cases_lt k (size l)) [
      | inl lt ↦ rw (lt_is k (size l) lt) (flag_on f Left k b l r lt (along-flag_at f k l lt))
      | inr ge ↦ rw (ge_is k (size l) ge) (subst (λ n. ChangesAlong (fork b l r) n (fork b l (flag_at f (k - size l) r))) (back k (size l) ge)
          (flag_on f Right (k - size l) b r l (omega arith) (along-flag_at f (k - size l) r (omega arith))))
    ]

-- each part beside the way is a part of the old tree
pub IsStraight : Tree → ℕ → Tree → Type 0
IsStraight w k (leaf x) = Unit {0}
IsStraight w k (fork i l r) = MatchBool (nat_lt k (size l)) (IsStraight w k l × IsPart w r) (IsPart w l × IsStraight w (k - size l) r)

straight_left : (w : Tree) (k i : ℕ) (l r : Tree) → k < size l → IsStraight w k (fork i l r) → IsStraight w k l × IsPart w r
unfolding IsStraight
straight_left w k i l r h s = rw (lt_is k (size l) h) at s

straight_right : (w : Tree) (k i : ℕ) (l r : Tree) → size l ≤ k → IsStraight w k (fork i l r) → IsPart w l × IsStraight w (k - size l) r
unfolding IsStraight
straight_right w k i l r h s = rw (ge_is k (size l) h) at s

make_left : (w : Tree) (k i : ℕ) (l r : Tree) → k < size l → IsStraight w k l → IsPart w r → IsStraight w k (fork i l r)
unfolding IsStraight
make_left w k i l r h a s = rw (lt_is k (size l) h) (a, s)

make_right : (w : Tree) (k i : ℕ) (l r : Tree) → size l ≤ k → IsPart w l → IsStraight w (k - size l) r → IsStraight w k (fork i l r)
unfolding IsStraight
make_right w k i l r h s a = rw (ge_is k (size l) h) (s, a)

straight_leaf : (w : Tree) (k : ℕ) (x : Item) → IsStraight w k (leaf x)
unfolding IsStraight
straight_leaf w k x = tt

straight_wider : (w W : Tree) (k : ℕ) (t : Tree) → ((x : Tree) → IsPart w x → IsPart W x) → IsStraight w k t → IsStraight W k t
straight_wider w W k (leaf x) more h = straight_leaf W k x
straight_wider w W k (fork i l r) more h =
    elim (cases_lt k (size l)) [
      | inl lt ↦ (let g = straight_left w k i l r lt h in make_left W k i l r lt (straight_wider w W k l more g.0) (more r g.1))
      | inr ge ↦ (let g = straight_right w k i l r ge h in make_right W k i l r ge (more l g.0) (straight_wider w W (k - size l) r more g.1))
    ]

straight_along : (w : Tree) (k : ℕ) (t : Tree) → IsStraight w k t → ChangesAlong w k t
straight_along w k (leaf x) h = tt
straight_along w k (fork i l r) h =
    elim (cases_lt k (size l)) [
      | inl lt ↦ (let g = straight_left w k i l r lt h in go_left w k i l r lt (straight_along w k l g.0) (sides_of_part w r g.1))
      | inr ge ↦ (let g = straight_right w k i l r ge h in go_right w k i l r ge (sides_of_part w l g.0) (straight_along w (k - size l) r g.1))
    ]

make_straight : (s : Side) (w : Tree) (k i : ℕ) (t u : Tree) → k < size t → IsStraight w k t → IsPart w u → IsStraight w (place_on s (size u) k) (fork_on s i t u)
make_straight Left w k i t u h a p = make_left w k i t u h a p
make_straight Right w k i t u h a p = let e : k ≡ (size u + k) - size u = omega arith in make_right w (size u + k) i u t (omega arith) p (subst (λ j. IsStraight w j t) e a)

-- the way goes to t, which is on this side, and u beside it is an old part
record Takes (s : Side) (w : Tree) (k : ℕ) (t u : Tree) : Type 0 where
  pub j : ℕ
  pub place_is : k ≡ place_on s (size u) j
  pub within : j < size t
  pub straight : IsStraight w j t
  pub beside : IsPart w u

takes : (s : Side) (w : Tree) (k i : ℕ) (t u : Tree) → k < size t + size u → IsStraight w k (fork_on s i t u) → Takes s w k t u ⊎ Takes (other s) w k u t
takes Left w k i t u h a = elim (cases_lt k (size t)) [
  | inl lt ↦ (let g = straight_left w k i t u lt a in inl (record { j = k; place_is = refl; within = lt; straight = g.0; beside = g.1 }))
  | inr ge ↦ (let g = straight_right w k i t u ge a in inr (record { j = k - size t; place_is = omega arith; within = omega arith; straight = g.1; beside = g.0 }))
]
takes Right w k i t u h a = elim (cases_lt k (size u)) [
  | inl lt ↦ (let g = straight_left w k i u t lt a in inr (record { j = k; place_is = refl; within = lt; straight = g.0; beside = g.1 }))
  | inr ge ↦ (let g = straight_right w k i u t ge a in inl (record { j = k - size u; place_is = omega arith; within = omega arith; straight = g.1; beside = g.0 }))
]

-- a higher tree after an insertion leans
abbrev pub Uneven : Tree → Type 0
Uneven (leaf x) = Unit {0}
Uneven (fork i l r) = height l ≢ height r

pub record PutsAlong (t : Tree) (k : ℕ) (now : Tree) : Type 0 where
  pub along : ChangesAlong t k now
  pub straight : height t < height now → IsStraight t k now
  pub uneven : height t < height now → 1 < height now → Uneven now

uneven_sides : (s : Side) (i : ℕ) (t u : Tree) → Uneven (fork_on s i t u) → height t ≢ height u
uneven_sides Left i t u n = n
uneven_sides Right i t u n = λ e. n (sym e)

make_uneven : (s : Side) (i : ℕ) (t u : Tree) → height t ≢ height u → Uneven (fork_on s i t u)
make_uneven Left i t u n = n
make_uneven Right i t u n = λ e. n (sym e)

-- places after a turn
outer_place : (s : Side) (i k j : ℕ) (n u : Tree) → k ≡ place_on s (size n) j → place_on s (size (fork_on s i n u)) j ≡ place_on s (size u) k
outer_place Left i k j n u e = sym e
outer_place Right i k j n u e = omega arith

inner_place : (s : Side) (k j a b : ℕ) → k ≡ place_on (other s) a j → place_on (other s) a (place_on s b j) ≡ place_on s b k
inner_place Left k j a b e = sym e
inner_place Right k j a b e = ap (λ n. b + n) (sym e)

-- and after two
first_place : (s : Side) (i c k j : ℕ) (p q u : Tree) → k ≡ place_on s (size (fork_on s c p q)) j → place_on s (size (fork_on s i q u)) (place_on s (size p) j) ≡ place_on s (size u) k
first_place Left i c k j p q u e = sym e
first_place Right i c k j p q u e = omega arith

second_place : (s : Side) (i k m j : ℕ) (o q u : Tree) → k ≡ place_on (other s) (size o) m → m ≡ place_on s (size q) j → place_on s (size (fork_on s i q u)) (place_on (other s) (size o) j) ≡ place_on s (size u) k
second_place Left i k m j o q u e f = omega arith
second_place Right i k m j o q u e f = omega arith

third_place : (s : Side) (b k m j : ℕ) (o p u : Tree) → k ≡ place_on (other s) (size o) m → m ≡ place_on (other s) (size p) j → place_on (other s) (size (fork_on s b o p)) (place_on s (size u) j) ≡ place_on s (size u) k
third_place Left b k m j o p u e f = omega arith
third_place Right b k m j o p u e f = omega arith

-- a straight tree that is turned once, with u beside it a part of the old tree
once_along : (s : Side) (w : Tree) (k i b : ℕ) (o n u : Tree) → k < size o + size n → IsStraight w k (fork_on s b o n) → IsPart w u → ChangesAlong w (place_on s (size u) k) (fork_on s b o (fork_on s i n u))
once_along s w k i b o n u h a p = elim (takes s w k b o n h a) [
  | inl A ↦ go_to s w A.j (place_on s (size u) k) b o (fork_on s i n u) A.within (straight_along w A.j o A.straight) (sides_on s w i n u A.beside p) (outer_place s i k A.j n u A.place_is)
  | inr A ↦ subst (ChangesAlong w (place_on s (size u) k)) (other_fork s b o (fork_on s i n u))
      (go_to (other s) w (place_on s (size u) A.j) (place_on s (size u) k) b (fork_on s i n u) o (place_within s A.j i n u A.within)
      (go s w A.j i n u A.within (straight_along w A.j n A.straight) (sides_of_part w u p)) (sides_of_part w o A.beside) (inner_place s k A.j (size o) (size u) A.place_is))
]

-- and twice
twice_along : (s : Side) (w : Tree) (k i b c : ℕ) (o p q u : Tree) → k < size o + (size p + size q) → IsStraight w k (fork_on s b o (fork_on s c p q)) → IsPart w u → ChangesAlong w (place_on s (size u) k) (fork_on s c (fork_on s b o p) (fork_on s i q u))
twice_along s w k i b c o p q u h a old = elim (takes s w k b o (fork_on s c p q) (let e = size-fork_on s c p q in omega arith) a) [
  | inl A ↦
      (let B = parts_on s w c p q A.beside in
      go_to s w (place_on s (size p) A.j) (place_on s (size u) k) c (fork_on s b o p) (fork_on s i q u) (place_within s A.j b o p A.within)
      (go s w A.j b o p A.within (straight_along w A.j o A.straight) (sides_of_part w p B.0)) (sides_on s w i q u B.1 old) (first_place s i c k A.j p q u A.place_is))
  | inr A ↦ elim (takes s w A.j c p q (let e = size-fork_on s c p q in let g = A.within in omega arith) A.straight) [
    | inl B ↦ go_to s w (place_on (other s) (size o) B.j) (place_on s (size u) k) c (fork_on s b o p) (fork_on s i q u)
        (subst (λ (x : Tree). place_on (other s) (size o) B.j < size x) (other_fork s b o p) (place_within (other s) B.j b p o B.within))
        (subst (ChangesAlong w (place_on (other s) (size o) B.j)) (other_fork s b o p) (go (other s) w B.j b p o B.within (straight_along w B.j p B.straight) (sides_of_part w o A.beside)))
        (sides_on s w i q u B.beside old) (second_place s i k A.j B.j o q u A.place_is B.place_is)
    | inr B ↦ subst (ChangesAlong w (place_on s (size u) k)) (other_fork s c (fork_on s b o p) (fork_on s i q u))
        (go_to (other s) w (place_on s (size u) B.j) (place_on s (size u) k) c (fork_on s i q u) (fork_on s b o p) (place_within s B.j i q u B.within)
        (go s w B.j i q u B.within (straight_along w B.j q B.straight) (sides_of_part w u old)) (sides_on s w b o p A.beside B.beside) (third_place s b k A.j B.j o p u A.place_is B.place_is))
  ]
]

turned_along : (s : Side) (w : Tree) (k i : ℕ) (t u : Tree) → 0 < height t → k < size t → IsStraight w k t → IsPart w u → ChangesAlong w (place_on s (size u) k) (turned s i (heavy s t) u)
turned_along s w k i t u high h a p = elim (leaned s i t u high) [
  | inl S ↦ subst (ChangesAlong w (place_on s (size u) k)) (sym S.now_is)
      (once_along s w k i S.b S.o S.n u (let e = size-fork_on s S.b S.o S.n in let f = ap size S.is in omega arith) (subst (IsStraight w k) S.is a) p)
  | inr D ↦ subst (ChangesAlong w (place_on s (size u) k)) (sym D.now_is)
      (twice_along s w k i D.b D.c D.o D.p D.q u (let e = size-fork_on s D.b D.o (fork_on s D.c D.p D.q) in let g = size-fork_on s D.c D.p D.q in let f = ap size D.is in omega arith) (subst (IsStraight w k) D.is a) p)
]

-- the height after that
turned_high : (s : Side) (i : ℕ) (t u : Tree) → IsAvl t → Uneven t → height t ≡ height u + 2 → height (turned s i (heavy s t) u) ≡ height u + 2
turned_high s i t u avl n e = elim (leaned s i t u (omega arith)) [
  | inl S ↦
      (let E = even_sides s S.b S.o S.n (subst IsAvl S.is avl) in let m = uneven_sides s S.b S.o S.n (subst Uneven S.is n) in
      let d = E.left_most in let lower = S.lower in let top = ap height S.is ∙ height-fork_on s S.b S.o S.n in
      let low = height-fork_on s i S.n u in let all = height-fork_on s S.b S.o (fork_on s i S.n u) in
      ap height S.now_is ∙ omega arith)
  | inr D ↦
      (let E = even_sides s D.b D.o (fork_on s D.c D.p D.q) (subst IsAvl D.is avl) in let M = even_sides s D.c D.p D.q E.right_avl in
      let d = E.right_most in let higher = D.higher in let top = ap height D.is ∙ height-fork_on s D.b D.o (fork_on s D.c D.p D.q) in
      let inner = height-fork_on s D.c D.p D.q in let f = M.left_most in let g = M.right_most in
      let one = height-fork_on s D.b D.o D.p in let two = height-fork_on s i D.q u in let all = height-fork_on s D.c (fork_on s D.b D.o D.p) (fork_on s i D.q u) in
      ap height D.now_is ∙ omega arith)
]

-- a leaf was put into the tree on one side
module _ (s : Side) (k b : ℕ) (t u now : Tree) (avl : IsAvl (fork_on s b t u)) (avl' : IsAvl now) (P : PutsAlong t k now) (size_is : size now ≡ size t + 1) (least : height t ≤ height now) (most : height now ≤ height t + 1) (place : k ≤ size t) where
  abbrev was : Tree
  was = fork_on s b t u

  even : IsEven t u
  even = even_sides s b t u avl

  from_here : (x : Tree) → IsPart t x → IsPart was x
  from_here = part_here s b t u

  put_even : height now ≤ height u + 1 → PutsAlong was (place_on s (size u) k) (fork_on s b now u)
  put_even h =
      let e = height-fork_on s b t u in let e' = height-fork_on s b now u in let d = even.left_most in let d' = even.right_most in
      record {
        along = go s was k b now u (omega arith) (along_wider t was k now from_here P.along) (sides_of_part was u (part_there s b t u));
        straight = λ g. make_straight s was k b now u (omega arith) (straight_wider t was k now from_here (P.straight (omega arith))) (part_there s b t u);
        uneven = λ g m. make_uneven s b now u (omega arith);
      }

  put_turned : height u + 1 < height now → PutsAlong was (place_on s (size u) k) (turned s b (heavy s now) u)
  put_turned h =
      let d = even.left_most in let e = height-fork_on s b t u in
      let higher : height t < height now = omega arith in
      let f = turned_high s b now u avl' (P.uneven higher (omega arith)) (omega arith) in
      record {
        along = turned_along s was k b now u (omega arith) (omega arith) (straight_wider t was k now from_here (P.straight higher)) (part_there s b t u);
        straight = λ g. absurd (omega arith);
        uneven = λ g _. absurd (omega arith);
      }

  put_side : PutsAlong was (place_on s (size u) k) (balanced s b now u)
  put_side =
      elim (cases_lt (height u + 1) (height now)) [
        | inl h ↦ subst (PutsAlong was (place_on s (size u) k)) (sym (balanced_high s b now u h)) (put_turned h)
        | inr h ↦ subst (PutsAlong was (place_on s (size u) k)) (sym (balanced_even s b now u h (let d = even.right_most in omega arith))) (put_even h)
      ]

puts_along : (i : ℕ) (x : Item) (k : ℕ) (t : Tree) → IsAvl t → k ≤ size t → PutsAlong t k (put_in i x k t)
puts_along i x zero (leaf y) avl h = record { along = (tt, tt); straight = λ _. make_left (leaf y) 0 i (leaf x) (leaf y) (omega arith) (straight_leaf (leaf y) 0 x) refl; uneven = λ _ m. absurd (omega arith) }
puts_along i x (suc zero) (leaf y) avl h = record { along = (tt, tt); straight = λ _. make_right (leaf y) 1 i (leaf y) (leaf x) (omega arith) refl (straight_leaf (leaf y) 0 x); uneven = λ _ m. absurd (omega arith) }
puts_along i x (suc (suc k)) (leaf y) avl h = absurd (omega arith)
puts_along i x k (fork b l r) avl h =
    elim (cases_lt (size l) k) [
      | inl gt ↦ rw (gt_is k (size l) gt)
          (let p = avl-put_in i x (k - size l) r avl.3 in
          subst (λ n. PutsAlong (fork b l r) n (balanced Right b (put_in i x (k - size l) r) l)) (back k (size l) (omega arith))
          (put_side Right (k - size l) b r l (put_in i x (k - size l) r) avl p.avl (puts_along i x (k - size l) r avl.3 (omega arith)) (size-put_in i x (k - size l) r) p.least p.most (omega arith)))
      | inr le ↦ rw (le_is k (size l) le)
          (let p = avl-put_in i x k l avl.2 in put_side Left k b l r (put_in i x k l) avl p.avl (puts_along i x k l avl.2 le) (size-put_in i x k l) p.least p.most le)
    ]

pub along-put_in : (i : ℕ) (x : Item) (k : ℕ) (t : Tree) → IsAvl t → k ≤ size t → ChangesAlong t k (put_in i x k t)
along-put_in i x k t avl h = (puts_along i x k t avl h).along
