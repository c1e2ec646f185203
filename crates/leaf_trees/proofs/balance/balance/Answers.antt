use Rattle.std.proofs.Common.{sym, subst, arith}
use Rattle.leaf_trees.specs.Tree.{fork}
use Rattle.leaf_trees.specs.Side.{other}
use Rattle.leaf_trees.specs.Balance.{turned, heavy}
use Rattle.leaf_trees.specs.Change.{Becomes}
use Rattle.leaf_trees.proofs.Held.{left_fits, right_fits, left_height, right_height}
use Rattle.leaf_trees.proofs.Turns.{flip_sides, footprint}
use Rattle.leaf_trees.proofs.Lean.{balanced_high, balanced_low, balanced_even}
use Rattle.leaf_trees.proofs.balance.balance.Goals as goal

pub overflow_add-other : goal.overflow_add-other
overflow_add-other c = let q = c.requires in record { fits = right_fits c.args.nodes.now c.args.i c.args.here c.args.there q.0 q.1 q.2 }

pub overflow_add-height : goal.overflow_add-height
overflow_add-height c = let q = c.requires in record { fits = left_fits c.args.nodes.now c.args.i c.args.here c.args.there q.0 q.1 q.2 }

pub lean-requires-then-other-height : goal.lean-requires-then-other-height
lean-requires-then-other-height c =
    let q = c.requires in let ns = c.args.nodes.now in let i = c.args.i in
    let e = left_height ns i c.args.here c.args.there q.0 q.1 q.2 in let f = right_height ns i c.args.here c.args.there q.0 q.1 q.2 in
    (q.1, q.0, flip_sides ns i c.args.here c.args.there q.0 q.1 q.2, omega (arith, c.if-other-height.true))

pub returns-then-height-other : goal.returns-then-height-other
returns-then-height-other c = λ t u S.
    let ns = c.args.nodes.now in let i = c.args.i in
    let e = left_height ns i c.args.here c.args.there t u S in let f = right_height ns i c.args.here c.args.there t u S in
    subst (Becomes ns c.lean.new.nodes c.lean.result (fork i t u)) (sym (balanced_high c.args.side i t u (omega (arith, c.if-height-other.true)))) (c.lean.ensures t u S)

pub returns-then-other-height : goal.returns-then-other-height
returns-then-other-height c = λ t u S.
    let ns = c.args.nodes.now in let ms = c.lean-then-other-height.new.nodes in let top = c.lean-then-other-height.result in let i = c.args.i in
    let e = left_height ns i c.args.here c.args.there t u S in let f = right_height ns i c.args.here c.args.there t u S in
    let T = c.lean-then-other-height.ensures u t (flip_sides ns i c.args.here c.args.there t u S) in
    let B = subst (λ v. Becomes ns ms top (fork i u t) (turned v i (heavy v u) t)) c.other.ensures T in
    subst (Becomes ns ms top (fork i t u)) (sym (balanced_low c.args.side i t u (omega (arith, c.if-other-height.true))))
    (footprint ns ms top i t u (turned (other c.args.side) i (heavy (other c.args.side) u) t) B)

pub returns-else-other-height : goal.returns-else-other-height
returns-else-other-height c = λ t u S.
    let ns = c.args.nodes.now in let i = c.args.i in
    let e = left_height ns i c.args.here c.args.there t u S in let f = right_height ns i c.args.here c.args.there t u S in
    subst (Becomes ns c.link_on.new.nodes i (fork i t u))
    (sym (balanced_even c.args.side i t u (omega (arith, c.if-height-other.false)) (omega (arith, c.if-other-height.false)))) (c.link_on.ensures t u S)
