use Rattle.std.proofs.Common.{◌-◌, sym, subst, arith}
use Rattle.leaf_trees.specs.Tree.{Tree, leaf, fork, size}
use Rattle.leaf_trees.specs.declared.side.Side.TheVariants.{Left, Right}
use Rattle.leaf_trees.specs.Balance.{put_in, balanced}
use Rattle.leaf_trees.specs.Change.{Becomes, Sides}
use Rattle.leaf_trees.proofs.Lean.{le_is, gt_is}
use Rattle.leaf_trees.proofs.Put.{beside_after, beside_before, sided, ready_side, put_sides, put_whole}
use Rattle.leaf_trees.proofs.edit.+insert_under.Goals as goal

pub link-requires : goal.link-requires
link-requires t c = let q = c.requires in (q.1, leaf q.0, subst (λ j. Sides c.args.nodes.now c.args.joint c.args.top j q.1 (leaf q.0)) q.3 (beside_after c.args.nodes.now c.args.top c.args.joint q.0 q.1 q.2))

pub link-requires-else-place-gt0 : goal.link-requires-else-place-gt0
link-requires-else-place-gt0 t c = let q = c.requires in (leaf q.0, q.1, subst (λ j. Sides c.args.nodes.now c.args.joint j c.args.top (leaf q.0) q.1) q.3 (beside_before c.args.nodes.now c.args.top c.args.joint q.0 q.1 q.2))

pub insert_under-left-requires : goal.insert_under-left-requires
insert_under-left-requires t c =
    let q = c.requires in let ns = c.args.nodes.now in let top = c.args.top in let i = c.args.joint in
    let f = sided ns top i q.0 q.1 q.2 (omega (arith, c.if-node-eq0.false)) in
    (omega (arith, c.decreases, f.left_lower), (q.0, f.l, ready_side Left ns top i q.0 f.l f.r f.ready, q.3))

pub insert_under-right-requires : goal.insert_under-right-requires
insert_under-right-requires t c =
    let q = c.requires in let ns = c.args.nodes.now in let top = c.args.top in let i = c.args.joint in
    let f = sided ns top i q.0 q.1 q.2 (omega (arith, c.if-node-eq0.false)) in
    (omega (arith, c.decreases, f.right_lower), (q.0, f.r, ready_side Right ns top i q.0 f.l f.r f.ready, q.3))

pub balance-requires : goal.balance-requires
balance-requires t c =
    let q = c.requires in let ns = c.args.nodes.now in let top = c.args.top in let i = c.args.joint in let k = c.args.place in
    let f = sided ns top i q.0 q.1 q.2 (omega (arith, c.if-node-eq0.false)) in
    let B = c.insert_under-left.ensures q.0 f.l (ready_side Left ns top i q.0 f.l f.r f.ready) q.3 in
    (put_in i q.0 k f.l, f.r, put_sides Left ns top i q.0 f.l f.r f.ready k c.insert_under-left.result c.insert_under-left.new.nodes B)

pub balance-requires-else-place-before : goal.balance-requires-else-place-before
balance-requires-else-place-before t c =
    let q = c.requires in let ns = c.args.nodes.now in let top = c.args.top in let i = c.args.joint in let k = c.args.place in
    let f = sided ns top i q.0 q.1 q.2 (omega (arith, c.if-node-eq0.false)) in
    let B = rw f.before at (c.insert_under-right.ensures q.0 f.r (ready_side Right ns top i q.0 f.l f.r f.ready) q.3) in
    (put_in i q.0 (k - size f.l) f.r, f.l, put_sides Right ns top i q.0 f.l f.r f.ready (k - size f.l) c.insert_under-right.result c.insert_under-right.new.nodes B)

pub returns-then-place-before : goal.returns-then-place-before
returns-then-place-before t c = λ x w R e.
    let ns = c.args.nodes.now in let top = c.args.top in let i = c.args.joint in let k = c.args.place in
    let f = sided ns top i x w R (omega (arith, c.if-node-eq0.false)) in
    let B = c.insert_under-left.ensures x f.l (ready_side Left ns top i x f.l f.r f.ready) e in
    let ms = c.insert_under-left.new.nodes in let new = c.insert_under-left.result in
    let C = c.balance.ensures (put_in i x k f.l) f.r (put_sides Left ns top i x f.l f.r f.ready k new ms B) in
    subst (λ (y : Tree). Becomes ns c.balance.new.nodes c.balance.result (fork i (leaf x) y) (put_in i x k y)) (sym f.is)
    (rw (le_is k (size f.l) (omega (arith, c.if-place-before.true, f.before))) (put_whole Left ns top i x f.l f.r f.ready k new ms B c.balance.new.nodes c.balance.result (balanced Left top (put_in i x k f.l) f.r) C))

pub returns-else-place-before : goal.returns-else-place-before
returns-else-place-before t c = λ x w R e.
    let ns = c.args.nodes.now in let top = c.args.top in let i = c.args.joint in let k = c.args.place in
    let f = sided ns top i x w R (omega (arith, c.if-node-eq0.false)) in
    let B = rw f.before at (c.insert_under-right.ensures x f.r (ready_side Right ns top i x f.l f.r f.ready) e) in
    let ms = c.insert_under-right.new.nodes in let new = c.insert_under-right.result in
    let C = c.balance-else-place-before.ensures (put_in i x (k - size f.l) f.r) f.l (put_sides Right ns top i x f.l f.r f.ready (k - size f.l) new ms B) in
    subst (λ (y : Tree). Becomes ns c.balance-else-place-before.new.nodes c.balance-else-place-before.result (fork i (leaf x) y) (put_in i x k y)) (sym f.is)
    (rw (gt_is k (size f.l) (omega (arith, c.if-place-before.false, f.before))) (put_whole Right ns top i x f.l f.r f.ready (k - size f.l) new ms B c.balance-else-place-before.new.nodes c.balance-else-place-before.result (balanced Right top (put_in i x (k - size f.l) f.r) f.l) C))
