-- What sums tell of the entries of a map.
use Rattle.std.proofs.Common.{◌≡◌, ℕ, zero, suc, ◌+◌, ◌-◌, ◌*◌, ◌^◌, ◌<◌, Bool, true, false, ◌||◌, List, Option, length, refl, sym, ap, ◌∙◌, subst, inl, inr, arith}
use Rattle.std.proofs.lemmas.Bool.{cases_lt, or_cases, or_from, or_parts, true≢false}
use Rattle.std.proofs.Math.Nat.{pow-suc}
use Rattle.attr_uses.specs.declared.entry.Entry.{Entry}
use Rattle.attr_uses.specs.declared.node.Sum.{Sum}
use Rattle.attr_uses.specs.declared.node.Node.{Node}
use Rattle.attr_uses.specs.declared.node.Node.TheVariants.{Empty, Leaf, Fork}
use Rattle.attr_uses.specs.Nodes.{node_left, node_right, node_entry, node_at, node_sum, no_sum, entry_sum, both_sums, find, IsMap, IsNoFork, IsNoLeaf, SumsUp, AreNodes}
use Rattle.attr_uses.specs.Maps.{entry_is, MapNodes, IsMapOf, SomeIs}
use Rattle.attr_uses.proofs.GrowLaws.{below, above}

module _ (ns : List Node) (are : AreNodes ns) (p : Entry → Bool) (q : Sum → Bool)
    (none : q no_sum ≡ false) (one : (e : Entry) → q (entry_sum e) ≡ p e) (both : (a b : Sum) → q (both_sums a b) ≡ (q a || q b)) where
  abbrev sum_of : ℕ → Bool
  sum_of n = q (node_sum (node_at ns n))

  sum-split : (node : Node) → IsNoLeaf node → SumsUp ns node → q (node_sum node) ≡ (sum_of (node_left node) || sum_of (node_right node))
  sum-split Empty kind up =
      let e : sum_of 0 ≡ false = ap (λ x. q (node_sum x)) are.first ∙ none in
      none ∙ sym (or_from (sum_of 0) (sum_of 0) e e)
  sum-split (Leaf e) kind up = absurd kind
  sum-split (Fork left right sum) kind up = ap q up ∙ both (node_sum (node_at ns left)) (node_sum (node_at ns right))

  last-sum : (node : Node) → IsNoFork node → q (node_sum node) ≡ entry_is p (node_entry node)
  last-sum Empty kind = none
  last-sum (Leaf e) kind = one e
  last-sum (Fork left right sum) kind = absurd kind

  -- the sum is that of some entry
  pub sum-found : (d n : ℕ) → n < length ns → IsMap ns d n → sum_of n ≡ true → (key : ℕ) × (key < 2 ^ d) × (entry_is p (find ns d n key) ≡ true)
  sum-found zero n l is e = (0, omega arith, sym (last-sum (node_at ns n) is) ∙ e)
  sum-found (suc d) n l is e =
      let in' = are.each n l in
      let wide : 2 ^ suc d ≡ 2 ^ d * 2 = pow-suc 2 d in
      elim (or_cases (sum_of (node_left (node_at ns n))) (sum_of (node_right (node_at ns n))) (sym (sum-split (node_at ns n) is.0 in'.sum) ∙ e)) [
        | inl a ↦ (let w = sum-found d (node_left (node_at ns n)) in'.left is.1 a in
            (w.0, omega (arith, w.1), rw (below w.0 (2 ^ d) w.1) w.2))
        | inr a ↦ (let w = sum-found d (node_right (node_at ns n)) in'.right is.2 a in
            let less : w.0 + 2 ^ d - 2 ^ d ≡ w.0 = omega arith in
            (w.0 + 2 ^ d, omega (arith, w.1), rw (above (w.0 + 2 ^ d) (2 ^ d) (omega arith), less) w.2))
      ]

  -- no entry is without the sum
  pub sum-none : (d n : ℕ) → n < length ns → IsMap ns d n → sum_of n ≡ false → (key : ℕ) → key < 2 ^ d → entry_is p (find ns d n key) ≡ false
  sum-none zero n l is e key h = sym (last-sum (node_at ns n) is) ∙ e
  sum-none (suc d) n l is e key h =
      let in' = are.each n l in
      let wide : 2 ^ suc d ≡ 2 ^ d * 2 = pow-suc 2 d in
      let parts = or_parts (sum_of (node_left (node_at ns n))) (sum_of (node_right (node_at ns n))) (sym (sum-split (node_at ns n) is.0 in'.sum) ∙ e) in
      elim (cases_lt key (2 ^ d)) [
        | inl a ↦ rw (below key (2 ^ d) a) (sum-none d (node_left (node_at ns n)) in'.left is.1 parts.0 key a)
        | inr a ↦ rw (above key (2 ^ d) a) (sum-none d (node_right (node_at ns n)) in'.right is.2 parts.1 (key - 2 ^ d) (omega (arith, h)))
      ]

  module _ (maps : MapNodes) (same : maps.nodes ≡ ns) (top : ℕ) (has : ℕ → Option Entry) (is : IsMapOf maps top has) (b : Bool) (e : b ≡ sum_of top) where
    found-in : b ≡ true → SomeIs maps.depth p has
    found-in t =
        let w = sum-found maps.depth top (subst (λ (xs : List Node). top < length xs) same is.there) (subst (λ xs. IsMap xs maps.depth top) same is.shape) (sym e ∙ t) in
        (w.0, w.1, ap (entry_is p) (sym (is.finds w.0 w.1) ∙ ap (λ xs. find xs maps.depth top w.0) same) ∙ w.2)

    not-in : b ≡ false → SomeIs maps.depth p has → b ≡ true
    not-in f w =
        let z = sum-none maps.depth top (subst (λ (xs : List Node). top < length xs) same is.there) (subst (λ xs. IsMap xs maps.depth top) same is.shape) (sym e ∙ f) w.0 w.1 in
        let y : entry_is p (has w.0) ≡ false = ap (entry_is p) (sym (is.finds w.0 w.1) ∙ ap (λ xs. find xs maps.depth top w.0) same) ∙ z in
        absurd (true≢false (sym w.2 ∙ y))

    pub told : (b ≡ true → SomeIs maps.depth p has) × (SomeIs maps.depth p has → b ≡ true)
    told = (found-in, of b refl)
      where
        of : (x : Bool) → b ≡ x → SomeIs maps.depth p has → b ≡ true
        of true t w = t
        of false f w = not-in f w
