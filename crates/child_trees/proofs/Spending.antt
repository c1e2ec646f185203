-- How many steps a walk between two places of a tree takes.
use Rattle.std.proofs.Common.{◌≡◌, ◌≢◌, ◌⊎◌, ℕ, ◌+◌, ◌-◌, ◌*◌, ◌<◌, ◌≤◌, min, refl, sym, ap, subst, inl, inr, arith}
use Rattle.std.proofs.lemmas.Bool.{cases_lt}
use Rattle.leaf_trees.specs.Tree.{Tree, fork, size, height}
use Rattle.leaf_trees.proofs.Held.{positive}
use Rattle.child_trees.specs.Sums.{TakesFew}

-- nothing lies there
pub few_none : (t : Tree) (from to : ℕ) → TakesFew t from to 0
few_none t from to = record { none = λ e. refl; whole = λ e l. omega arith; ends = λ e. omega arith; all = omega arith }

-- all leaves lie there
pub few_all : (t : Tree) (from to spent : ℕ) → from < to → from < size t → spent ≤ 1 → TakesFew t from to spent
few_all t from to spent l k s = record {
  none = λ e. elim e [ inl a ↦ absurd (omega (arith, a, l)) | inr b ↦ absurd (omega (arith, b, k)) ];
  whole = λ e m. s;
  ends = λ e. omega (arith, s);
  all = omega (arith, s);
}

-- some lie there, on one side or on both
pub few_fork : (t : Tree) (i : ℕ) (l r : Tree) (from to n a b : ℕ) → t ≡ fork i l r → n ≡ size l → from < to → to ≤ size t → to - from ≢ size t → TakesFew l from to a → TakesFew r (from - n) (to - n) b → TakesFew t from to (a + b)
few_fork t i l r from to n a b is e lt le not x y = record {
  none = λ s. elim s [ inl q ↦ absurd (omega (arith, q, lt)) | inr q ↦ absurd (omega (arith, q, lt, le)) ];
  whole = λ z w. absurd (not (omega (arith, z, w, le)));
  ends = ends;
  all = all;
}
  where
    sizes : size t ≡ size l + size r
    sizes = ap size is

    left_low : height l + 1 ≤ height t
    left_low = let h = ap height is in omega (arith, h)

    right_low : height r + 1 ≤ height t
    right_low = let h = ap height is in omega (arith, h)

    some_left : 0 < size l
    some_left = positive l

    some_right : 0 < size r
    some_right = positive r

    all : a + b ≤ 2 * height t + 1
    all = elim (cases_lt from n) [
      | inl f ↦ elim (cases_lt n to) [
        | inl g ↦
            let p = x.ends (inr (omega (arith, g, e))) in
            let q = y.ends (inl (omega (arith, f))) in
            omega (arith, p, q, left_low, right_low)
        | inr g ↦ let p = x.all in let q = y.none (inl (omega (arith, g))) in omega (arith, p, q, left_low)
      ]
      | inr f ↦ let p = x.none (inr (omega (arith, f, e))) in let q = y.all in omega (arith, p, q, right_low)
    ]

    first : from ≡ 0 → a + b ≤ height t + 1
    first z = elim (cases_lt n to) [
      | inl g ↦
          let p = x.whole z (omega (arith, g, e)) in
          let q = y.ends (inl (omega (arith, z))) in
          omega (arith, p, q, right_low)
      | inr g ↦ let p = x.ends (inl z) in let q = y.none (inl (omega (arith, g))) in omega (arith, p, q, left_low)
    ]

    last : size t ≤ to → a + b ≤ height t + 1
    last w = elim (cases_lt from n) [
      | inl f ↦
          let p = x.ends (inr (omega (arith, w, sizes))) in
          let q = y.whole (omega (arith, f)) (omega (arith, w, sizes, e)) in
          omega (arith, p, q, left_low)
      | inr f ↦
          let p = x.none (inr (omega (arith, f, e))) in
          let q = y.ends (inr (omega (arith, w, sizes, e))) in
          omega (arith, p, q, right_low)
    ]

    ends : ((from ≡ 0) ⊎ (size t ≤ to)) → a + b ≤ height t + 1
    ends (inl z) = first z
    ends (inr w) = last w

pub few_sides : (t : Tree) (i : ℕ) (l r : Tree) (from to n p q a b m : ℕ) → t ≡ fork i l r → n ≡ size l → p ≡ from - n → q ≡ to - n → m ≡ a + b → from < to → to ≤ size t → to - from ≢ size t → TakesFew l from to a → TakesFew r p q b → TakesFew t from to m
few_sides t i l r from to n p q a b m is e ep eq em lt le not x y =
    subst (TakesFew t from to) (sym em)
    (few_fork t i l r from to n a b is e lt le not x (subst (λ k. TakesFew r k (to - n) b) ep (subst (λ k. TakesFew r p k b) eq y)))

-- no more places than leaves
pub few_upto : (t : Tree) (from to spent : ℕ) → TakesFew t from (min to (size t)) spent → TakesFew t from to spent
few_upto t from to spent x = record {
  none = λ e. elim e [ inl a ↦ x.none (inl (omega (arith, a))) | inr b ↦ x.none (inr b) ];
  whole = λ e l. x.whole e (omega (arith, l));
  ends = λ e. elim e [ inl a ↦ x.ends (inl a) | inr b ↦ x.ends (inr (omega (arith, b))) ];
  all = x.all;
}
