-- What the calls of an arena change.
use Rattle.std.proofs.Common.{◌≡◌, ◌≢◌, ℕ, ◌+◌, ◌^◌, ◌<◌, ◌≤◌, List, ◌++◌, length, take, drop, insert, remove, set, get_or, refl, sym, ap, ◌∙◌, subst, inl, inr, arith, lit<}
use Rattle.std.proofs.lemmas.List.{take-append-le, take_all}
use Rattle.leaf_trees.specs.declared.node.Node.{Node}
use Rattle.leaf_trees.specs.declared.node.Flags.{Flags}
use Rattle.leaf_trees.specs.declared.node.Above.TheVariants.{Top}
use Rattle.leaf_trees.specs.declared.edit.Cut.{Cut}
use Rattle.leaf_trees.specs.Tree.{Item, Tree, leaf, fork, size, leaves, items, item_of, Has}
use Rattle.leaf_trees.specs.Balance.{put_in, flag_at, ChangesAlong}
use Rattle.leaf_trees.specs.Arena.{at, IsTaken, IsTreeOf, IsFreeSlot, IsInUse}
use Rattle.leaf_trees.specs.Change.{Slots, KeepsOthers, KeepsAll, Changes, Makes, Grows, SetsAbove, WritesLeaf, Plants, Replants, HasRoom}
use Rattle.leaf_trees.specs.Slots.{Takes, Gives}
use Rattle.leaf_trees.specs.Cut.{Stays, LeavesTree}
use Rattle.leaf_trees.proofs.Held.{has_top}
use Rattle.leaf_trees.proofs.Forest.{has_within, has_taken, not_free, trees_apart, tree_kept, tree_grown}
use Rattle.leaf_trees.proofs.Parts.{top_counts, leaf_of}
use Rattle.leaf_trees.proofs.Put.{leaves-put_in}
use Rattle.leaf_trees.proofs.Flag.{leaves-flag_at}
use Rattle.leaf_trees.proofs.TakeOut.{rest_leaves, leaves-take_out, none_leaf}
use Rattle.leaf_trees.proofs.Along.{along-put_in, along-flag_at}
use Rattle.leaf_trees.proofs.AlongRest.{along-take_out}

-- a slot is taken: the trees stay
pub take_keeps : (old new : Slots) (slot p b : ℕ) (u : Tree) → Takes old new slot → IsTreeOf old.nodes p b u → IsTreeOf new.nodes p b u
take_keeps old new slot p b u K U = tree_kept old.nodes new.nodes p b u K.len (λ j h. K.others j (λ e. not_free old.nodes p b u U slot K.free.free (subst (Has u) e h))) U

-- the slot is in none of them
pub take_apart : (old new : Slots) (slot p b : ℕ) (u : Tree) → Takes old new slot → IsTreeOf old.nodes p b u → ¬ Has u slot
take_apart old new slot p b u K U = not_free old.nodes p b u U slot K.free.free

-- a slot in no tree is given back
pub give_keeps : (old new : Slots) (slot p b : ℕ) (u : Tree) → Gives old new slot → ¬ Has u slot → IsTreeOf old.nodes p b u → IsTreeOf new.nodes p b u
give_keeps old new slot p b u G n U = tree_kept old.nodes new.nodes p b u G.len (λ j h. G.others j (λ e. n (subst (Has u) e h))) U

pub kept_apart : (ns : List Node) (p q a b : ℕ) (t u : Tree) → IsTreeOf ns p a t → IsTreeOf ns q b u → q ≢ p → (j : ℕ) → Has u j → ¬ Has t j
kept_apart ns p q a b t u T U n j h k = (trees_apart ns q p b a u t U T n).apart j h k

-- two slots are taken, for a leaf and a fork
module _ (s0 s1 s2 : Slots) (list top place item joint : ℕ) (t : Tree) (T : IsTreeOf s0.nodes list top t) (A : Takes s0 s1 item) (B : Takes s1 s2 joint) where
  pub room : place ≤ size t → size t + 1 < 2 ^ 32 → HasRoom s2.nodes list top place joint item t
  room h few =
      let T1 = take_keeps s0 s1 item list top t A T in
      record {
        tree = take_keeps s1 s2 joint list top t B T1;
        place_in = h;
        few = few;
        new_fork = subst (λ n. joint < n) (sym B.len) B.free.within;
        new_leaf = subst (λ n. item < n) (sym (B.len ∙ A.len)) A.free.within;
        differ = λ e. B.free.free (subst (λ i. IsTaken (at s1.nodes i)) (sym e) A.taken);
        not_fork = take_apart s1 s2 joint list top t B T1;
        not_leaf = take_apart s0 s1 item list top t A T;
      }

  pub put_changes : (ns : List Node) (res : ℕ) (flags : Flags) → place ≤ size t → size t + 1 < 2 ^ 32 → Replants s2.nodes ns list res (fork joint (leaf (item_of item flags)) t) (put_in joint (item_of item flags) place t) → Changes s0.nodes ns list t res place (insert (leaves t) place (item_of item flags))
  put_changes ns res flags h few R =
      let x = item_of item flags in
      let R2 = room h few in
      record {
        now = put_in joint x place t;
        tree = R.tree;
        leaves_are = leaves-put_in joint x place t h;
        along = along-put_in joint x place t T.avl h;
        others = λ p b u n U.
            let U1 = take_keeps s0 s1 item p b u A U in let U2 = take_keeps s1 s2 joint p b u B U1 in
            tree_kept s2.nodes ns p b u R.len
            (λ j k. R.others j (λ m. elim m [
              | inl e ↦ take_apart s1 s2 joint p b u B U1 (subst (Has u) e k)
              | inr y ↦ elim y [ inl e ↦ take_apart s0 s1 item p b u A U (subst (Has u) e k) | inr a ↦ kept_apart s2.nodes list p top b t u R2.tree U2 n j k a ]
            ])) U2;
      }

  -- the free slots stay
  pub put_free : (ns : List Node) (res : ℕ) (x : Item) (now : Tree) → x.number ≡ item → Replants s2.nodes ns list res (fork joint (leaf x) t) now → (j : ℕ) → ¬ IsTaken (at s2.nodes j) → at ns j ≡ at s2.nodes j
  put_free ns res x now is R j free = R.others j (λ m. free (elim m [
    | inl e ↦ subst (λ i. IsTaken (at s2.nodes i)) (sym e) B.taken
    | inr y ↦ elim y [
      | inl e ↦ subst (λ i. IsTaken (at s2.nodes i)) (sym (e ∙ is)) (subst IsTaken (sym (B.others item (λ f. B.free.free (subst (λ i. IsTaken (at s1.nodes i)) f A.taken)))) A.taken)
      | inr a ↦ has_taken s2.nodes list top t (take_keeps s1 s2 joint list top t B (take_keeps s0 s1 item list top t A T)) j a
    ]
  ]))

-- a list's tree was changed within its nodes
pub replanted_others : (ns ms : List Node) (list top res : ℕ) (t now : Tree) → IsTreeOf ns list top t → Replants ns ms list res t now → KeepsOthers ns ms list
replanted_others ns ms list top res t now T R = λ p b u n U. tree_kept ns ms p b u R.len (λ j k. R.others j (kept_apart ns list p top b t u T U n j k)) U

pub replanted_free : (ns ms : List Node) (list top res : ℕ) (t now : Tree) → IsTreeOf ns list top t → Replants ns ms list res t now → (j : ℕ) → ¬ IsTaken (at ns j) → at ms j ≡ at ns j
replanted_free ns ms list top res t now T R j free = R.others j (not_free ns list top t T j free)

-- other flags
pub flag_changes : (ns ms : List Node) (list top place : ℕ) (t : Tree) (f : Flags) → IsTreeOf ns list top t → place < size t → Replants ns ms list top t (flag_at f place t) → Changes ns ms list t top place (set (leaves t) place (item_of (get_or (items t) place 0) f))
flag_changes ns ms list top place t f T h R = record {
  now = flag_at f place t;
  tree = R.tree;
  leaves_are = leaves-flag_at f place t h;
  along = along-flag_at f place t h;
  others = replanted_others ns ms list top top t (flag_at f place t) T R;
}

-- a vector whose whole slice was written
pub written : (items now : List Node) (len : ℕ) → length now ≡ length items → len ≡ length items → take len (now ++ drop (length now) items) ≡ now
written items now len same all = take-append-le len now (drop (length now) items) (omega arith) ∙ take_all len now (omega arith)

-- trees with the same top have the same size
pub same_size : (ns : List Node) (p q top : ℕ) (t u : Tree) → IsTreeOf ns p top t → IsTreeOf ns q top u → size t ≡ size u
same_size ns p q top t u T U = ap (λ c. c.leaves) (sym (top_counts ns top t T.has) ∙ top_counts ns top u U.has)

-- the last item goes, and its slot
pub one_gone : (ns : List Node) (s1 s2 : Slots) (list top place : ℕ) (t : Tree) → IsTreeOf ns list top t → Stays ns s1.nodes t place → Gives s1 s2 top → (size t ≡ 1) × KeepsOthers ns s2.nodes list
one_gone ns s1 s2 list top place t T S G = (
  let w = leaf_of t (none_leaf place t S.left) in ap size w.1,
  λ p b u n U.
      let U' = subst (λ ms. IsTreeOf ms p b u) (sym S.same) U in
      give_keeps s1 s2 top p b u G (λ h. kept_apart ns list p top b t u T U n top h (has_top t top T.has.top_is)) U',
)

pub one_used : (ns ms : List Node) (list top place : ℕ) (t : Tree) → IsTreeOf ns list top t → Stays ns ms t place → IsInUse ms top
one_used ns ms list top place t T S = subst (λ ks. IsInUse ks top) (sym S.same) (record {
  within = has_within ns t T.has.holds top (has_top t top T.has.top_is);
  taken = has_taken ns list top t T top (has_top t top T.has.top_is);
})

-- an item goes, with a fork
module _ (ns : List Node) (list top place : ℕ) (t : Tree) (T : IsTreeOf ns list top t) (s1 : Slots) (cut : Cut) (L : LeavesTree ns s1.nodes list t place cut) where
  pub fork_used : IsInUse s1.nodes cut.fork
  fork_used = record { within = (let w = has_within ns t T.has.holds cut.fork L.fork in let n = L.tree.len in omega arith); taken = L.tree.taken cut.fork (has_taken ns list top t T cut.fork L.fork) }

  module _ (s2 : Slots) (G : Gives s1 s2 cut.fork) where
    pub item_used : IsInUse s2.nodes cut.item
    item_used = record {
      within = (let w = has_within ns t T.has.holds cut.item L.item in let n = L.tree.len in let m = G.len in omega arith);
      taken = subst IsTaken (sym (G.others cut.item L.differ)) (L.tree.taken cut.item (has_taken ns list top t T cut.item L.item));
    }

    pub one_less : (s3 : Slots) → Gives s2 s3 cut.item → place < size t → Changes ns s3.nodes list t cut.top cut.place (remove (leaves t) place)
    one_less s3 H h = record {
      now = L.now;
      tree = give_keeps s2 s3 cut.item list cut.top L.now H L.not_item (give_keeps s1 s2 cut.fork list cut.top L.now G L.not_fork L.tree.tree);
      leaves_are = sym (ap rest_leaves L.left) ∙ leaves-take_out place t h;
      along = subst (λ j. ChangesAlong t j L.now) (sym L.place_is) (along-take_out place t L.now T.avl L.left);
      others = λ p b u n U.
          let apart : (j : ℕ) → Has t j → ¬ Has u j = λ j k m. kept_apart ns list p top b t u T U n j m k in
          give_keeps s2 s3 cut.item p b u H (apart cut.item L.item) (give_keeps s1 s2 cut.fork p b u G (apart cut.fork L.fork)
          (replanted_others ns s1.nodes list top cut.top t L.now T L.tree p b u n U));
    }

-- a leaf alone
pub planted : (ns ms ks : List Node) (list : ℕ) (x : Item) → WritesLeaf ns ms x → SetsAbove ms ks x.number (Top list) → Plants ns ks list x
planted ns ms ks list x W S = record {
  len = S.len ∙ W.len;
  tree = record {
    has = record {
      holds = record { within = subst (λ n. x.number < n) (sym S.len) W.is_leaf.within; height_is = S.alike.height ∙ W.is_leaf.height_is; counts_are = S.alike.counts ∙ W.is_leaf.counts_are };
      apart = tt;
      top_is = refl;
      few = lit< tt;
    };
    avl = tt;
    above = S.above_is;
  };
  others = λ j n. S.others j n ∙ W.others j n;
}

-- a taken slot is a tree
pub planted_makes : (s0 s1 : Slots) (ns : List Node) (list : ℕ) (x : Item) → Takes s0 s1 x.number → Plants s1.nodes ns list x → Makes s0.nodes ns list x.number (leaf x)
planted_makes s0 s1 ns list x K P = record {
  tree = P.tree;
  slots = λ j h. subst (IsFreeSlot s0.nodes) (sym h) K.free;
  others = λ p b u U. tree_kept s1.nodes ns p b u P.len (λ j h. P.others j (λ e. take_apart s0 s1 x.number p b u K U (subst (Has u) e h))) (take_keeps s0 s1 x.number p b u K U);
}

pub planted_free : (s0 s1 : Slots) (ns : List Node) (list : ℕ) (x : Item) → Takes s0 s1 x.number → Plants s1.nodes ns list x → (j : ℕ) → ¬ IsTaken (at s1.nodes j) → at ns j ≡ at s1.nodes j
planted_free s0 s1 ns list x K P j free = P.others j (λ e. free (subst (λ i. IsTaken (at s1.nodes i)) (sym e) K.taken))

-- an arena that grows keeps its trees
pub grows_keeps : (ns ms : List Node) → Grows ns ms → KeepsAll ns ms
grows_keeps ns ms G = λ p b u U. tree_grown ns ms p b u G.longer (λ j h. G.same j (has_within ns u U.has.holds j h)) U
