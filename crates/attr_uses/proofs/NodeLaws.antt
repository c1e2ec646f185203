-- Nodes one after another, and a map with one entry more.
use Rattle.std.proofs.Common.{◌≡◌, ℕ, suc, ◌+◌, ◌-◌, ◌*◌, ◌^◌, ◌<◌, ◌≤◌, nat_eq, false, List, [], ◌∷◌, ◌++◌, length, refl, sym, ap, ◌∙◌, subst, inl, inr, arith, length-append}
use Rattle.std.proofs.lemmas.Bool.{cases_lt, cases_eq, ne_eqb}
use Rattle.std.proofs.lemmas.Bool.Decides.{nat_tests}
use Rattle.std.proofs.Math.Seq.{get_or-append_seam}
use Rattle.std.proofs.Math.Nat.{pow-suc}
use Rattle.attr_uses.specs.declared.entry.Entry.{Entry}
use Rattle.attr_uses.specs.declared.node.Node.{Node}
use Rattle.attr_uses.specs.declared.node.Node.TheVariants.{Empty}
use Rattle.attr_uses.specs.Nodes.{node_left, node_right, node_at, find, IsMap, IsNoLeaf, IsNodeIn, AreNodes, Grows}
use Rattle.attr_uses.specs.Steps.{Puts}
use Rattle.attr_uses.proofs.GrowLaws.{below, above, grows-longer, node-kept, find-kept, shape-kept, in-kept}
use Rattle.attr_uses.proofs.MapLaws.{find-lower, find-upper, shape-fork}

-- the new node is behind the old ones
pub node-pushed : (ns : List Node) (node : Node) → node_at (ns ++ node ∷ []) (length ns) ≡ node
node-pushed ns node = get_or-append_seam ns node [] Empty

pub pushed : (ns : List Node) (node : Node) → AreNodes ns → IsNodeIn ns node → length ns + 1 < 2 ^ 32 → AreNodes (ns ++ node ∷ [])
pushed ns node are is few =
    let g : Grows ns (ns ++ node ∷ []) = (node ∷ [], refl) in
    let long : length (ns ++ node ∷ []) ≡ length ns + 1 = length-append ns (node ∷ []) in
    record {
      some = grows-longer ns (ns ++ node ∷ []) 0 g are.some;
      first = node-kept ns (ns ++ node ∷ []) 0 g are.some ∙ are.first;
      each = λ n h. elim (cases_eq n (length ns)) [
        | inl same ↦ subst (IsNodeIn (ns ++ node ∷ [])) (sym (ap (node_at (ns ++ node ∷ [])) same ∙ node-pushed ns node)) (in-kept ns (ns ++ node ∷ []) are g node is)
        | inr other ↦ (let l : n < length ns = omega arith in
            subst (IsNodeIn (ns ++ node ∷ [])) (sym (node-kept ns (ns ++ node ∷ []) n g l)) (in-kept ns (ns ++ node ∷ []) are g (node_at ns n) (are.each n l)))
      ];
      few = omega arith;
    }

pub first-alone : AreNodes (Empty ∷ [])
first-alone = record {
  some = omega arith;
  first = refl;
  each = λ n h. (let z : n ≡ 0 = omega arith in subst (λ k. IsNodeIn (Empty ∷ []) (node_at (Empty ∷ []) k)) (sym z) record { left = omega arith; right = omega arith; sum = tt });
  few = omega arith;
}

upper-small : (d key : ℕ) → key < 2 ^ suc d → 2 ^ d ≤ key → key - 2 ^ d < 2 ^ d
upper-small d key h a = let e : 2 ^ suc d ≡ 2 ^ d * 2 = pow-suc 2 d in omega arith

eq-less : (a b c : ℕ) → c ≤ a → c ≤ b → nat_eq (a - c) (b - c) ≡ nat_eq a b
eq-less a b c h k = grind (arith, nat_tests)

-- one entry more in one half
module _ (old mid new : List Node) (d at name : ℕ) (entry : Entry) (made left right : ℕ) (are : AreNodes old) (are_mid : AreNodes mid)
    (g : Grows old mid) (k : Grows mid new) (here : at < length old) (shape : IsMap old (suc d) at)
    (there : made < length new) (kind : IsNoLeaf (node_at new made)) (l : node_left (node_at new made) ≡ left) (r : node_right (node_at new made) ≡ right) where
  pub puts-lower : name < 2 ^ d → Puts old mid d (node_left (node_at old at)) name entry left → right ≡ node_right (node_at old at) → Puts old new (suc d) at name entry made
  puts-lower small put same =
      let in' = are.each at here in
      let there' : right < length mid = rw same (grows-longer old mid (node_right (node_at old at)) g in'.right) in
      let shape' : IsMap mid d right = rw same (shape-kept old mid are g d (node_right (node_at old at)) in'.right shape.2) in
      record {
        there = there;
        shape = shape-fork new d made left right l r kind (shape-kept mid new are_mid k d left put.there put.shape) (shape-kept mid new are_mid k d right there' shape');
        finds = λ key h. elim (cases_lt key (2 ^ d)) [
          | inl a ↦ (let x = find-lower new d made left right l r key a ∙ (find-kept mid new are_mid k d left put.there key ∙ put.finds key a) in
              x ∙ sym (rw (below key (2 ^ d) a) refl))
          | inr a ↦ (let x = find-upper new d made left right l r key a ∙ (find-kept mid new are_mid k d right there' (key - 2 ^ d)) in
              let y : find mid d right (key - 2 ^ d) ≡ find old d (node_right (node_at old at)) (key - 2 ^ d) = ap (λ n. find mid d n (key - 2 ^ d)) same ∙ find-kept old mid are g d (node_right (node_at old at)) in'.right (key - 2 ^ d) in
              let other : nat_eq key name ≡ false = ne_eqb key name (λ e. omega arith) in
              x ∙ (y ∙ sym (rw (above key (2 ^ d) a, other) refl)))
        ];
      }

  pub puts-upper : 2 ^ d ≤ name → Puts old mid d (node_right (node_at old at)) (name - 2 ^ d) entry right → left ≡ node_left (node_at old at) → Puts old new (suc d) at name entry made
  puts-upper big put same =
      let in' = are.each at here in
      let there' : left < length mid = rw same (grows-longer old mid (node_left (node_at old at)) g in'.left) in
      let shape' : IsMap mid d left = rw same (shape-kept old mid are g d (node_left (node_at old at)) in'.left shape.1) in
      record {
        there = there;
        shape = shape-fork new d made left right l r kind (shape-kept mid new are_mid k d left there' shape') (shape-kept mid new are_mid k d right put.there put.shape);
        finds = λ key h. elim (cases_lt key (2 ^ d)) [
          | inl a ↦ (let x = find-lower new d made left right l r key a ∙ find-kept mid new are_mid k d left there' key in
              let y : find mid d left key ≡ find old d (node_left (node_at old at)) key = ap (λ n. find mid d n key) same ∙ find-kept old mid are g d (node_left (node_at old at)) in'.left key in
              let other : nat_eq key name ≡ false = ne_eqb key name (λ e. omega arith) in
              x ∙ (y ∙ sym (rw (below key (2 ^ d) a, other) refl)))
          | inr a ↦ (let small : key - 2 ^ d < 2 ^ d = upper-small d key h a in
              let x = find-upper new d made left right l r key a ∙ (find-kept mid new are_mid k d right put.there (key - 2 ^ d) ∙ put.finds (key - 2 ^ d) small) in
              x ∙ sym (rw (above key (2 ^ d) a, eq-less key name (2 ^ d) a big) refl))
        ];
      }
