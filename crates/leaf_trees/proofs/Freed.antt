-- A tree whose slots are given back.
use Rattle.std.proofs.Common.{◌≡◌, ℕ, ◌<◌, List, length, get_or, sym, ap, ◌∙◌, subst, inl, inr, arith}
use Rattle.std.proofs.lemmas.List.{get_or_read}
use Rattle.leaf_trees.specs.declared.node.Node.{Node}
use Rattle.leaf_trees.specs.Tree.{Tree, Has}
use Rattle.leaf_trees.specs.Arena.{at, IsTaken, IsUsed, HasTree, IsTreeOf, IsInUse}
use Rattle.leaf_trees.specs.Change.{Slots, KeepsOthers}
use Rattle.leaf_trees.specs.Slots.{Gives, Frees}
use Rattle.leaf_trees.proofs.Held.{has_top, Holds-same}
use Rattle.leaf_trees.proofs.Parts.{Parts}
use Rattle.leaf_trees.proofs.Forest.{tree_kept}
use Rattle.leaf_trees.proofs.Changed.{kept_apart}

module _ (s0 : Slots) (top : ℕ) (t : Tree) (P : Parts s0.nodes top t) where
  pub left_used : IsInUse s0.nodes (at s0.nodes top).left
  left_used = record { within = P.left_within; taken = subst IsUsed (sym (ap (λ i. (at s0.nodes i).above) (sym P.sides.left) ∙ P.whole.holds.0.left_above)) tt }

  module _ (s1 : Slots) (A : Frees s0 s1 P.l) where
    stays_right : (j : ℕ) → Has P.r j → at s1.nodes j ≡ at s0.nodes j
    stays_right j h = A.others j (λ k. P.sides.apart.2.apart j k h)

    pub right_tree : HasTree s1.nodes (at s0.nodes top).right P.r
    right_tree = record { holds = Holds-same s0.nodes s1.nodes P.r A.len P.right.apart stays_right P.right.holds; apart = P.right.apart; top_is = P.right.top_is; few = P.right.few }

    pub right_used : IsInUse s1.nodes (at s0.nodes top).right
    right_used = record {
      within = subst (λ n. (at s0.nodes top).right < n) (sym A.len) P.right_within;
      taken = subst IsTaken (sym (stays_right (at s0.nodes top).right (has_top P.r (at s0.nodes top).right P.sides.right)))
          (subst IsUsed (sym (ap (λ i. (at s0.nodes i).above) (sym P.sides.right) ∙ P.whole.holds.0.right_above)) tt);
    }

    pub right_low : (at s1.nodes (at s0.nodes top).right).height < (at s0.nodes top).height
    right_low = subst (λ (n : Node). n.height < (at s0.nodes top).height) (sym (stays_right (at s0.nodes top).right (has_top P.r (at s0.nodes top).right P.sides.right))) P.right_lower

    module _ (s2 : Slots) (B : Frees s1 s2 P.r) where
      stays_top : at s2.nodes top ≡ at s0.nodes top
      stays_top = B.others top P.sides.apart.1 ∙ A.others top P.sides.apart.0

      pub top_used : IsInUse s0.nodes top → IsInUse s2.nodes top
      top_used U = record { within = subst (λ n. top < n) (sym (B.len ∙ A.len)) U.within; taken = subst IsTaken (sym stays_top) U.taken }

      pub fork_freed : (s3 : Slots) → Gives s2 s3 top → Frees s0 s3 t
      fork_freed s3 G = subst (Frees s0 s3) (sym P.is) (record {
        free = λ j h. elim h [
          | inl e ↦ subst (λ i. ¬ IsTaken (at s3.nodes i)) (sym e) G.free
          | inr y ↦ elim y [
            | inl k ↦ subst (λ n. ¬ IsTaken n) (sym (G.others j (λ e. P.sides.apart.0 (subst (Has P.l) e k)) ∙ B.others j (λ m. P.sides.apart.2.apart j k m))) (A.free j k)
            | inr k ↦ subst (λ n. ¬ IsTaken n) (sym (G.others j (λ e. P.sides.apart.1 (subst (Has P.r) e k)))) (B.free j k)
          ]
        ];
        spare = (let a = A.spare in let b = B.spare in let g = G.spare in omega arith);
        len = G.len ∙ B.len ∙ A.len;
        others = λ j n. G.others j (λ e. n (inl e)) ∙ B.others j (λ k. n (inr (inr k))) ∙ A.others j (λ k. n (inr (inl k)));
      })

-- the trees of the other lists stay
pub freed_others : (s0 s1 : Slots) (list top : ℕ) (t : Tree) → IsTreeOf s0.nodes list top t → Frees s0 s1 t → KeepsOthers s0.nodes s1.nodes list
freed_others s0 s1 list top t T F = λ p b u n U. tree_kept s0.nodes s1.nodes p b u F.len (λ j h. F.others j (kept_apart s0.nodes list p top b t u T U n j h)) U

-- the node that is read
pub read_is : (ns : List Node) (i : ℕ) (n : Node) → i < length ns → n ≡ get_or ns i n → n ≡ at ns i
read_is ns i n h e = get_or_read ns i n h e _
