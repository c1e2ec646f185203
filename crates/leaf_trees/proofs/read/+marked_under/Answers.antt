use Rattle.std.proofs.Common.{◌<◌, length, get_or, ap, sym, ◌∙◌, subst, refl, arith}
use Rattle.leaf_trees.specs.Arena.{at}
use Rattle.leaf_trees.specs.Tree.{Tree, marked_items}
use Rattle.leaf_trees.specs.Side.{other, below, on}
use Rattle.leaf_trees.proofs.Parts.{down}
use Rattle.leaf_trees.proofs.Told.{marked_on_way}
use Rattle.leaf_trees.proofs.read.+marked_under.Goals as goal

pub marked_under-requires : goal.marked_under-requires
marked_under-requires t c =
    let q = c.requires in let ns = c.args.nodes.now in let top = c.args.top in let w = c.to-way.result in
    let D = down w.side ns top c.on.result (below (other w.side) (at ns top)) q.0 q.1 (omega (arith, c.if-node-eq0.false)) c.on.ensures refl in
    let M = marked_on_way w c.args.number _ top D.l D.r c.to-way.ensures (ap (λ x. x.marked) D.left_counts) in
    (omega (arith, c.decreases, D.lower), (on w.side D.l D.r, D.tree, M.within (subst (λ (x : Tree). c.args.number < length (marked_items x)) D.is q.2)))

pub returns : goal.returns
returns t c = λ v H h.
    let ns = c.args.nodes.now in let top = c.args.top in let w = c.to-way.result in
    let D = down w.side ns top c.on.result (below (other w.side) (at ns top)) v H (omega (arith, c.if-node-eq0.false)) c.on.ensures refl in
    let M = marked_on_way w c.args.number _ top D.l D.r c.to-way.ensures (ap (λ x. x.marked) D.left_counts) in
    c.marked_under.ensures (on w.side D.l D.r) D.tree (M.within (subst (λ (x : Tree). c.args.number < length (marked_items x)) D.is h)) ∙ sym M.is ∙ ap (λ (x : Tree). get_or (marked_items x) c.args.number 0) (sym D.is)
