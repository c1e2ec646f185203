use Rattle.std.proofs.Common.{ap, sym, subst, refl, arith}
use Rattle.leaf_trees.specs.Arena.{at}
use Rattle.leaf_trees.specs.Tree.{Tree, size, IsItemAt}
use Rattle.leaf_trees.specs.Side.{other, below, on}
use Rattle.leaf_trees.proofs.Parts.{down}
use Rattle.leaf_trees.proofs.Ways.{goes}
use Rattle.leaf_trees.proofs.Told.{item_on_way}
use Rattle.leaf_trees.proofs.read.+item_under.Goals as goal

pub item_under-requires : goal.item_under-requires
item_under-requires t c =
    let q = c.requires in let ns = c.args.nodes.now in let top = c.args.top in let w = c.to-way.result in
    let D = down w.side ns top c.on.result (below (other w.side) (at ns top)) q.0 q.1 (omega (arith, c.if-node-eq0.false)) c.on.ensures refl in
    let G = goes w c.args.place _ D.l D.r c.to-way.ensures (ap (λ x. x.leaves) D.left_counts) in
    (omega (arith, c.decreases, D.lower), (on w.side D.l D.r, D.tree, G.within (let n = ap size D.is in let h = q.2 in omega arith)))

pub returns : goal.returns
returns t c = λ v H h.
    let ns = c.args.nodes.now in let top = c.args.top in let w = c.to-way.result in
    let D = down w.side ns top c.on.result (below (other w.side) (at ns top)) v H (omega (arith, c.if-node-eq0.false)) c.on.ensures refl in
    let n = ap (λ x. x.leaves) D.left_counts in
    let G = goes w c.args.place _ D.l D.r c.to-way.ensures n in
    subst (λ (x : Tree). IsItemAt x c.args.place c.item_under.result) (sym D.is)
    (item_on_way w c.args.place _ c.item_under.result top D.l D.r c.to-way.ensures n (c.item_under.ensures (on w.side D.l D.r) D.tree (G.within (let m = ap size D.is in omega arith))))
