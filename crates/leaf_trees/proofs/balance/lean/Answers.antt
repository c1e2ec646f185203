use Rattle.std.proofs.Common.{◌≡◌, ◌<◌, ◌≤◌, sym, ap, ◌∙◌, subst, arith}
use Rattle.leaf_trees.specs.Arena.{at}
use Rattle.leaf_trees.specs.Tree.{Tree, fork, height}
use Rattle.leaf_trees.specs.Side.{other, below, on}
use Rattle.leaf_trees.specs.Balance.{turned}
use Rattle.leaf_trees.specs.Change.{Becomes}
use Rattle.leaf_trees.proofs.Held.{left_height, right_height}
use Rattle.leaf_trees.proofs.Turns.{flip_sides, high_side}
use Rattle.leaf_trees.proofs.Lean.{high_same, high-turned, heavy_same, turned_sides, double}
use Rattle.leaf_trees.proofs.balance.lean.Goals as goal

pub returns-then-nodes-inner : goal.returns-then-nodes-inner
returns-then-nodes-inner c = λ t u S.
    let ns = c.args.nodes.now in let s = c.args.side in let i = c.args.i in let b = c.args.high in let low = c.args.low in
    let x = c.on-outer.result in let y = c.on-inner.result in let q = c.requires in
    let e : y ≡ below (other s) (at ns b) = c.on-inner.ensures ∙ ap (λ v. below v (at ns b)) c.other.ensures in
    let high = high_same ns i b low q.0 q.1 t u q.2 S q.3 in
    let f = high_side s ns i b low x y t u S (omega arith) c.on-outer.ensures e in
    let o = left_height ns b x y (on s f.l f.r) (on (other s) f.l f.r) f.inner in let n = right_height ns b x y (on s f.l f.r) (on (other s) f.l f.r) f.inner in
    let leans : height (on (other s) f.l f.r) ≤ height (on s f.l f.r) = omega (arith, o, n, c.if-nodes-inner.true) in
    subst (λ (v : Tree). Becomes ns c.turn.new.nodes c.turn.result (fork i t u) (turned s i v u)) (sym (heavy_same s t b f.l f.r f.is leans)) (c.turn.ensures t u S (omega arith))

pub turn-high-requires : goal.turn-high-requires
turn-high-requires c =
    let ns = c.args.nodes.now in let s = c.args.side in let i = c.args.i in let b = c.args.high in let low = c.args.low in
    let x = c.on-outer.result in let y = c.on-inner.result in let q = c.requires in
    let e : y ≡ below (other s) (at ns b) = c.on-inner.ensures ∙ ap (λ v. below v (at ns b)) c.other.ensures in
    let f = high_side s ns i b low x y q.0 q.1 q.2 (omega (arith, q.3)) c.on-outer.ensures e in
    let o = left_height ns b x y (on s f.l f.r) (on (other s) f.l f.r) f.inner in let n = right_height ns b x y (on s f.l f.r) (on (other s) f.l f.r) f.inner in
    (on (other s) f.l f.r, on s f.l f.r, flip_sides ns b x y (on s f.l f.r) (on (other s) f.l f.r) f.inner, omega (arith, o, n, c.if-nodes-inner.false))

pub turn-requires-2 : goal.turn-requires-2
turn-requires-2 c =
    let ns = c.args.nodes.now in let s = c.args.side in let i = c.args.i in let b = c.args.high in let low = c.args.low in
    let x = c.on-outer.result in let y = c.on-inner.result in let q = c.requires in
    let e : y ≡ below (other s) (at ns b) = c.on-inner.ensures ∙ ap (λ v. below v (at ns b)) c.other.ensures in
    let f = high_side s ns i b low x y q.0 q.1 q.2 (omega (arith, q.3)) c.on-outer.ensures e in
    let o = on s f.l f.r in let n = on (other s) f.l f.r in
    let eo = left_height ns b x y (on s f.l f.r) (on (other s) f.l f.r) f.inner in let en = right_height ns b x y (on s f.l f.r) (on (other s) f.l f.r) f.inner in
    let T = c.turn-high.ensures n o (flip_sides ns b x y o n f.inner) (omega (arith, eo, en, c.if-nodes-inner.false)) in
    let B = subst (λ v. Becomes ns c.turn-high.new.nodes c.turn-high.result (fork b n o) (turned v b n o)) c.other-2.ensures T in
    (turned (other s) b n o, q.1, turned_sides s ns c.turn-high.new.nodes i b low c.turn-high.result f.l f.r q.1 f.sides B, high-turned (other s) b n o)

pub returns : goal.returns
returns c = λ t u S.
    let ns = c.args.nodes.now in let s = c.args.side in let i = c.args.i in let b = c.args.high in let low = c.args.low in
    let x = c.on-outer.result in let y = c.on-inner.result in let q = c.requires in
    let e : y ≡ below (other s) (at ns b) = c.on-inner.ensures ∙ ap (λ v. below v (at ns b)) c.other.ensures in
    let high = high_same ns i b low q.0 q.1 t u q.2 S q.3 in
    let f = high_side s ns i b low x y t u S (omega arith) c.on-outer.ensures e in
    let o = on s f.l f.r in let n = on (other s) f.l f.r in
    let eo = left_height ns b x y (on s f.l f.r) (on (other s) f.l f.r) f.inner in let en = right_height ns b x y (on s f.l f.r) (on (other s) f.l f.r) f.inner in
    let leans : height (on s f.l f.r) < height (on (other s) f.l f.r) = omega (arith, eo, en, c.if-nodes-inner.false) in
    let T = c.turn-high.ensures n o (flip_sides ns b x y o n f.inner) (omega arith) in
    let B = subst (λ v. Becomes ns c.turn-high.new.nodes c.turn-high.result (fork b n o) (turned v b n o)) c.other-2.ensures T in
    let C = c.turn-2.ensures (turned (other s) b n o) u (turned_sides s ns c.turn-high.new.nodes i b low c.turn-high.result f.l f.r u f.sides B) (high-turned (other s) b n o) in
    double s ns c.turn-high.new.nodes i b low c.turn-high.result f.l f.r u f.sides B c.turn-2.new.nodes c.turn-2.result t f.is leans C
