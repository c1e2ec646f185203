-- What sums tell of two entries of types of ids.
use Rattle.std.proofs.Common.{◌≡◌, ℕ, zero, suc, ◌+◌, ◌-◌, ◌*◌, ◌^◌, ◌<◌, Bool, true, false, ◌&&◌, ◌||◌, List, Option, length, refl, sym, ap, ◌∙◌, inl, inr, arith}
use Rattle.std.proofs.lemmas.Bool.{cases_lt, or_cases, or_from, true≢false, and_parts}
use Rattle.std.proofs.Math.Nat.{pow-suc}
use Rattle.attr_uses.specs.declared.entry.Entry.{Entry}
use Rattle.attr_uses.specs.declared.node.Sum.{Sum}
use Rattle.attr_uses.specs.declared.node.Node.{Node}
use Rattle.attr_uses.specs.declared.node.Node.TheVariants.{Empty, Leaf, Fork}
use Rattle.attr_uses.specs.Nodes.{node_left, node_right, node_at, node_sum, find, IsMap, IsNoFork, IsNoLeaf, SumsUp, AreNodes}
use Rattle.attr_uses.specs.Maps.{entry_is, TwoAre}
use Rattle.attr_uses.proofs.GrowLaws.{below, above}
use Rattle.attr_uses.proofs.SumLaws.{sum-found, sum-none}

abbrev is_id : Option Entry → Bool
is_id = entry_is (λ e. e.id)

module _ (ns : List Node) (are : AreNodes ns) where
  abbrev two_of : ℕ → Bool
  two_of n = (node_sum (node_at ns n)).two_ids

  abbrev id_of : ℕ → Bool
  id_of n = (node_sum (node_at ns n)).id

  two-first : two_of 0 ≡ false
  two-first = ap (λ n. (node_sum n).two_ids) are.first

  id-first : id_of 0 ≡ false
  id-first = ap (λ n. (node_sum n).id) are.first

  two-split : (node : Node) → IsNoLeaf node → SumsUp ns node → (node_sum node).two_ids ≡ (two_of (node_left node) || two_of (node_right node) || (id_of (node_left node) && id_of (node_right node)))
  two-split Empty kind up = sym (or_from (two_of 0 || two_of 0) (id_of 0 && id_of 0) (or_from (two_of 0) (two_of 0) two-first two-first) (ap (λ b. b && id_of 0) id-first))
  two-split (Leaf e) kind up = absurd kind
  two-split (Fork left right sum) kind up = ap (λ (s : Sum). s.two_ids) up

  two-last : (node : Node) → IsNoFork node → (node_sum node).two_ids ≡ false
  two-last Empty kind = refl
  two-last (Leaf e) kind = refl
  two-last (Fork left right sum) kind = absurd kind

  id-found : (d n : ℕ) → n < length ns → IsMap ns d n → id_of n ≡ true → (key : ℕ) × (key < 2 ^ d) × (is_id (find ns d n key) ≡ true)
  id-found = sum-found ns are (λ e. e.id) (λ s. s.id) refl (λ e. refl) (λ a b. refl)

  id-there : (d n : ℕ) → n < length ns → IsMap ns d n → (key : ℕ) → key < 2 ^ d → is_id (find ns d n key) ≡ true → id_of n ≡ true
  id-there d n l is key h e = of (id_of n) refl
    where
      of : (b : Bool) → id_of n ≡ b → id_of n ≡ true
      of true s = s
      of false s = absurd (true≢false (sym e ∙ sum-none ns are (λ e. e.id) (λ s. s.id) refl (λ e. refl) (λ a b. refl) d n l is s key h))

  pub two-found : (d n : ℕ) → n < length ns → IsMap ns d n → two_of n ≡ true → TwoAre d (λ e. e.id) (find ns d n)
  two-found zero n l is e = absurd (true≢false (sym e ∙ two-last (node_at ns n) is))
  two-found (suc d) n l is e =
      let in' = are.each n l in
      let wide : 2 ^ suc d ≡ 2 ^ d * 2 = pow-suc 2 d in
      let a = node_left (node_at ns n) in let b = node_right (node_at ns n) in
      elim (or_cases (two_of a || two_of b) (id_of a && id_of b) (sym (two-split (node_at ns n) is.0 in'.sum) ∙ e)) [
        | inl one ↦ elim (or_cases (two_of a) (two_of b) one) [
          | inl x ↦ (let w = two-found d a in'.left is.1 x in
              (w.0, w.1, w.2, omega (arith, w.3), rw (below w.0 (2 ^ d) (omega (arith, w.2, w.3))) w.4, rw (below w.1 (2 ^ d) w.3) w.5))
          | inr y ↦ (let w = two-found d b in'.right is.2 y in
              let p : w.0 + 2 ^ d - 2 ^ d ≡ w.0 = omega arith in let q : w.1 + 2 ^ d - 2 ^ d ≡ w.1 = omega arith in
              (w.0 + 2 ^ d, w.1 + 2 ^ d, omega (arith, w.2), omega (arith, w.3), rw (above (w.0 + 2 ^ d) (2 ^ d) (omega arith), p) w.4, rw (above (w.1 + 2 ^ d) (2 ^ d) (omega arith), q) w.5))
        ]
        | inr each ↦ (let both = and_parts (id_of a) (id_of b) each in
            let x = id-found d a in'.left is.1 both.0 in let y = id-found d b in'.right is.2 both.1 in
            let q : y.0 + 2 ^ d - 2 ^ d ≡ y.0 = omega arith in
            (x.0, y.0 + 2 ^ d, omega (arith, x.1), omega (arith, y.1), rw (below x.0 (2 ^ d) x.1) x.2, rw (above (y.0 + 2 ^ d) (2 ^ d) (omega arith), q) y.2))
      ]

  pub two-there : (d n : ℕ) → n < length ns → IsMap ns d n → TwoAre d (λ e. e.id) (find ns d n) → two_of n ≡ true
  two-there zero n l is w = absurd (omega (arith, w.2, w.3))
  two-there (suc d) n l is w =
      let in' = are.each n l in
      let wide : 2 ^ suc d ≡ 2 ^ d * 2 = pow-suc 2 d in
      let a = node_left (node_at ns n) in let b = node_right (node_at ns n) in
      let split = two-split (node_at ns n) is.0 in'.sum in
      elim (cases_lt w.1 (2 ^ d)) [
        | inl y ↦ (let x : w.0 < 2 ^ d = omega (arith, w.2) in
            let t = two-there d a in'.left is.1 (w.0, w.1, w.2, y, sym (rw (below w.0 (2 ^ d) x) refl) ∙ w.4, sym (rw (below w.1 (2 ^ d) y) refl) ∙ w.5) in
            split ∙ rw t refl)
        | inr y ↦ elim (cases_lt w.0 (2 ^ d)) [
          | inl x ↦ (let s = id-there d a in'.left is.1 w.0 x (sym (rw (below w.0 (2 ^ d) x) refl) ∙ w.4) in
              let t = id-there d b in'.right is.2 (w.1 - 2 ^ d) (omega (arith, w.3)) (sym (rw (above w.1 (2 ^ d) y) refl) ∙ w.5) in
              split ∙ rw (s, t) (last (two_of a) (two_of b)))
          | inr x ↦ (let t = two-there d b in'.right is.2 (w.0 - 2 ^ d, w.1 - 2 ^ d, omega (arith, w.2, x), omega (arith, w.3), sym (rw (above w.0 (2 ^ d) x) refl) ∙ w.4, sym (rw (above w.1 (2 ^ d) y) refl) ∙ w.5) in
              split ∙ rw t (middle (two_of a) (id_of a && id_of b)))
        ]
      ]
    where
      last : (x y : Bool) → (x || y || true) ≡ true
      last true y = refl
      last false true = refl
      last false false = refl

      middle : (x z : Bool) → (x || true || z) ≡ true
      middle true z = refl
      middle false z = refl
