-- What stands below a node stays where nodes are added behind the old ones.
use Rattle.std.proofs.Common.{◌≡◌, ℕ, zero, suc, ◌+◌, ◌-◌, ◌^◌, ◌<◌, ◌≤◌, nat_lt, true, false, List, [], ◌++◌, length, refl, sym, ap, ◌∙◌, subst, arith, length-append}
use Rattle.std.proofs.lemmas.Bool.Decides.{nat_tests}
use Rattle.std.proofs.lemmas.List.{get_or_append_left, append_assoc, append-nil}
use Rattle.attr_uses.specs.declared.node.Node.{Node}
use Rattle.attr_uses.specs.declared.node.Node.TheVariants.{Empty, Leaf, Fork}
use Rattle.attr_uses.specs.Nodes.{node_left, node_right, node_entry, node_at, find, IsMap, IsNoFork, IsNoLeaf, SumsUp, IsNodeIn, AreNodes, Grows}

pub below : (a b : ℕ) → a < b → nat_lt a b ≡ true
below a b h = grind (arith, nat_tests)

pub above : (a b : ℕ) → b ≤ a → nat_lt a b ≡ false
above a b h = grind (arith, nat_tests)

pub grows-itself : (ns : List Node) → Grows ns ns
grows-itself ns = ([], sym (append-nil ns))

pub grows-on : (a b c : List Node) → Grows a b → Grows b c → Grows a c
grows-on a b c g h = (g.0 ++ h.0, h.1 ∙ (ap (λ xs. xs ++ h.0) g.1 ∙ append_assoc a g.0 h.0))

pub grows-longer : (a b : List Node) (n : ℕ) → Grows a b → n < length a → n < length b
grows-longer a b n g l = let e : length b ≡ length a + length g.0 = ap length g.1 ∙ length-append a g.0 in omega arith

pub node-kept : (a b : List Node) (n : ℕ) → Grows a b → n < length a → node_at b n ≡ node_at a n
node-kept a b n g l = ap (λ xs. node_at xs n) g.1 ∙ get_or_append_left a g.0 Empty n l

module _ (a b : List Node) (are : AreNodes a) (grows : Grows a b) where
  pub find-kept : (d n : ℕ) → n < length a → (key : ℕ) → find b d n key ≡ find a d n key
  find-kept zero n l key = ap node_entry (node-kept a b n grows l)
  find-kept (suc d) n l key =
      let e = node-kept a b n grows l in
      let in' = are.each n l in
      let at_left : find b d (node_left (node_at b n)) key ≡ find a d (node_left (node_at a n)) key = ap (λ x. find b d (node_left x) key) e ∙ find-kept d (node_left (node_at a n)) in'.left key in
      let at_right : find b d (node_right (node_at b n)) (key - 2 ^ d) ≡ find a d (node_right (node_at a n)) (key - 2 ^ d) = ap (λ x. find b d (node_right x) (key - 2 ^ d)) e ∙ find-kept d (node_right (node_at a n)) in'.right (key - 2 ^ d) in
      rw (at_left, at_right) refl

  pub shape-kept : (d n : ℕ) → n < length a → IsMap a d n → IsMap b d n
  shape-kept zero n l is = subst IsNoFork (sym (node-kept a b n grows l)) is
  shape-kept (suc d) n l is =
      let e = sym (node-kept a b n grows l) in
      let in' = are.each n l in (
        subst IsNoLeaf e is.0,
        subst (λ x. IsMap b d (node_left x)) e (shape-kept d (node_left (node_at a n)) in'.left is.1),
        subst (λ x. IsMap b d (node_right x)) e (shape-kept d (node_right (node_at a n)) in'.right is.2),
      )

  sums-kept : (node : Node) → node_left node < length a → node_right node < length a → SumsUp a node → SumsUp b node
  sums-kept Empty l r s = s
  sums-kept (Leaf e) l r s = s
  sums-kept (Fork left right sum) l r s = rw (node-kept a b left grows l, node-kept a b right grows r) s

  pub in-kept : (node : Node) → IsNodeIn a node → IsNodeIn b node
  in-kept node is = record {
    left = grows-longer a b (node_left node) grows is.left;
    right = grows-longer a b (node_right node) grows is.right;
    sum = sums-kept node is.left is.right is.sum;
  }
