use Rattle.std.proofs.Common.{◌≡◌, ap, ◌∙◌, arith}
use Rattle.leaf_trees.specs.Arena.{at}
use Rattle.leaf_trees.specs.Tree.{size}
use Rattle.leaf_trees.specs.Side.{other, below, on}
use Rattle.leaf_trees.specs.Balance.{flag_at}
use Rattle.leaf_trees.proofs.Parts.{down}
use Rattle.leaf_trees.proofs.Ways.{goes}
use Rattle.leaf_trees.proofs.Flag.{flagged_sides, flagged}
use Rattle.leaf_trees.proofs.edit.+flag_under.Goals as goal

pub flag_under-requires : goal.flag_under-requires
flag_under-requires t c =
    let q = c.requires in let ns = c.args.nodes.now in let top = c.args.top in let w = c.to-way.result in
    let e : c.on-there.result ≡ below (other w.side) (at ns top) = c.on-there.ensures ∙ ap (λ s. below s (at ns top)) c.other.ensures in
    let D = down w.side ns top c.on-here.result c.on-there.result q.0 q.1 (omega (arith, c.if-node-eq0.false)) c.on-here.ensures e in
    let G = goes w c.args.place _ D.l D.r c.to-way.ensures (ap (λ x. x.leaves) D.left_counts) in
    (omega (arith, c.decreases, D.lower), (on w.side D.l D.r, D.tree, G.within (let n = ap size D.is in let h = q.2 in omega arith)))

pub link_on-requires : goal.link_on-requires
link_on-requires t c =
    let q = c.requires in let ns = c.args.nodes.now in let top = c.args.top in let w = c.to-way.result in
    let a = c.on-here.result in let b = c.on-there.result in
    let e : b ≡ below (other w.side) (at ns top) = c.on-there.ensures ∙ ap (λ s. below s (at ns top)) c.other.ensures in
    let D = down w.side ns top a b q.0 q.1 (omega (arith, c.if-node-eq0.false)) c.on-here.ensures e in
    let G = goes w c.args.place _ D.l D.r c.to-way.ensures (ap (λ x. x.leaves) D.left_counts) in
    let B = c.flag_under.ensures (on w.side D.l D.r) D.tree (G.within (let n = ap size D.is in let h = q.2 in omega arith)) in
    (flag_at c.args.flags w.place (on w.side D.l D.r), on (other w.side) D.l D.r, flagged_sides w.side ns top a b c.args.flags c.args.place w.place q.0 D G c.flag_under.new.nodes B)

pub returns : goal.returns
returns t c = λ v H h.
    let ns = c.args.nodes.now in let top = c.args.top in let w = c.to-way.result in
    let a = c.on-here.result in let b = c.on-there.result in let f = c.args.flags in
    let e : b ≡ below (other w.side) (at ns top) = c.on-there.ensures ∙ ap (λ s. below s (at ns top)) c.other.ensures in
    let D = down w.side ns top a b v H (omega (arith, c.if-node-eq0.false)) c.on-here.ensures e in
    let G = goes w c.args.place _ D.l D.r c.to-way.ensures (ap (λ x. x.leaves) D.left_counts) in
    let B = c.flag_under.ensures (on w.side D.l D.r) D.tree (G.within (let n = ap size D.is in omega arith)) in
    let ms = c.flag_under.new.nodes in
    let C = c.link_on.ensures (flag_at f w.place (on w.side D.l D.r)) (on (other w.side) D.l D.r) (flagged_sides w.side ns top a b f c.args.place w.place v D G ms B) in
    flagged w.side ns top a b f c.args.place w.place v D G ms B c.link_on.new.nodes C
