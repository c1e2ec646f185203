use Rattle.std.proofs.Common.{◌≡◌, ap, ◌∙◌, sym, subst, arith}
use Rattle.leaf_trees.specs.Arena.{at}
use Rattle.leaf_trees.specs.Tree.{size}
use Rattle.leaf_trees.specs.Side.{other, below, on, place_on, nearest}
use Rattle.leaf_trees.specs.Cut.{CutsTo}
use Rattle.leaf_trees.proofs.Held.{positive}
use Rattle.leaf_trees.proofs.Parts.{down}
use Rattle.leaf_trees.proofs.Ways.{goes}
use Rattle.leaf_trees.proofs.TakeOut.{cut_leaf, cut_sides, cut_whole, rest_place-below}
use Rattle.leaf_trees.proofs.edit.+remove_under.Goals as goal

pub remove_under-requires : goal.remove_under-requires
remove_under-requires t c =
    let q = c.requires in let ns = c.args.nodes.now in let top = c.args.top in let w = c.to-way.result in
    let e : c.on-there.result ≡ below (other w.side) (at ns top) = c.on-there.ensures ∙ ap (λ s. below s (at ns top)) c.other.ensures in
    let D = down w.side ns top c.on-here.result c.on-there.result q.0 q.1 (omega (arith, c.if-node-eq0.false)) c.on-here.ensures e in
    let G = goes w c.args.place _ D.l D.r c.to-way.ensures (ap (λ x. x.leaves) D.left_counts) in
    (omega (arith, c.decreases, D.lower), (on w.side D.l D.r, D.tree, G.within (let n = ap size D.is in let h = q.2 in omega arith)))

pub nearest-requires : goal.nearest-requires
nearest-requires t c =
    let q = c.requires in let ns = c.args.nodes.now in let top = c.args.top in let w = c.to-way.result in
    let e : c.on-there.result ≡ below (other w.side) (at ns top) = c.on-there.ensures ∙ ap (λ s. below s (at ns top)) c.other.ensures in
    let D = down w.side ns top c.on-here.result c.on-there.result q.0 q.1 (omega (arith, c.if-node-eq0.false)) c.on-here.ensures e in
    let n = ap (λ x. x.leaves) D.there_counts in omega (arith, n, positive (on (other w.side) D.l D.r))

pub balance-requires : goal.balance-requires
balance-requires t c =
    let q = c.requires in let ns = c.args.nodes.now in let top = c.args.top in let w = c.to-way.result in
    let a = c.on-here.result in let b = c.on-there.result in
    let e : b ≡ below (other w.side) (at ns top) = c.on-there.ensures ∙ ap (λ s. below s (at ns top)) c.other.ensures in
    let D = down w.side ns top a b q.0 q.1 (omega (arith, c.if-node-eq0.false)) c.on-here.ensures e in
    let G = goes w c.args.place _ D.l D.r c.to-way.ensures (ap (λ x. x.leaves) D.left_counts) in
    let C = c.in-Some.ensures (on w.side D.l D.r) D.tree (G.within (let n = ap size D.is in let h = q.2 in omega arith)) in
    (C.now, on (other w.side) D.l D.r, cut_sides w.side ns top a b c.args.place w.place q.0 D G c.remove_under.new.nodes c.in-Some.cut C)

pub place_on-requires : goal.place_on-requires
place_on-requires t c =
    let q = c.requires in let ns = c.args.nodes.now in let top = c.args.top in let w = c.to-way.result in
    let a = c.on-here.result in let b = c.on-there.result in
    let e : b ≡ below (other w.side) (at ns top) = c.on-there.ensures ∙ ap (λ s. below s (at ns top)) c.other.ensures in
    let D = down w.side ns top a b q.0 q.1 (omega (arith, c.if-node-eq0.false)) c.on-here.ensures e in
    let G = goes w c.args.place _ D.l D.r c.to-way.ensures (ap (λ x. x.leaves) D.left_counts) in
    let C = c.in-Some.ensures (on w.side D.l D.r) D.tree (G.within (let n = ap size D.is in let h = q.2 in omega arith)) in
    let place = C.place_is in let few = D.both.few in let n = ap (λ x. x.leaves) D.there_counts in
    omega (arith, place, few, n, rest_place-below w.place (on w.side D.l D.r))

pub returns-in-None : goal.returns-in-None
returns-in-None t c = λ v H h.
    let ns = c.args.nodes.now in let top = c.args.top in let w = c.to-way.result in
    let a = c.on-here.result in let b = c.on-there.result in
    let e : b ≡ below (other w.side) (at ns top) = c.on-there.ensures ∙ ap (λ s. below s (at ns top)) c.other.ensures in
    let D = down w.side ns top a b v H (omega (arith, c.if-node-eq0.false)) c.on-here.ensures e in
    let G = goes w c.args.place _ D.l D.r c.to-way.ensures (ap (λ x. x.leaves) D.left_counts) in
    let S = c.in-None.ensures (on w.side D.l D.r) D.tree (G.within (let n = ap size D.is in omega arith)) in
    let place : nearest w.side (size (on (other w.side) D.l D.r)) ≡ c.nearest.result = sym (c.nearest.ensures ∙ ap (λ x. nearest w.side x.leaves) D.there_counts) in
    subst (λ p. CutsTo ns c.remove_under.new.nodes v c.args.place (record { top = b; place = p; item = a; fork = top })) place
    (cut_leaf w.side ns top a b c.args.place w.place v D G c.remove_under.new.nodes S)

pub returns-in-Some : goal.returns-in-Some
returns-in-Some t c = λ v H h.
    let ns = c.args.nodes.now in let top = c.args.top in let w = c.to-way.result in
    let a = c.on-here.result in let b = c.on-there.result in
    let e : b ≡ below (other w.side) (at ns top) = c.on-there.ensures ∙ ap (λ s. below s (at ns top)) c.other.ensures in
    let D = down w.side ns top a b v H (omega (arith, c.if-node-eq0.false)) c.on-here.ensures e in
    let G = goes w c.args.place _ D.l D.r c.to-way.ensures (ap (λ x. x.leaves) D.left_counts) in
    let C = c.in-Some.ensures (on w.side D.l D.r) D.tree (G.within (let n = ap size D.is in omega arith)) in
    let B = c.balance.ensures C.now (on (other w.side) D.l D.r) (cut_sides w.side ns top a b c.args.place w.place v D G c.remove_under.new.nodes c.in-Some.cut C) in
    let place : place_on w.side (size (on (other w.side) D.l D.r)) c.in-Some.cut.place ≡ c.place_on.result = sym (c.place_on.ensures ∙ ap (λ x. place_on w.side x.leaves c.in-Some.cut.place) D.there_counts) in
    subst (λ p. CutsTo ns c.balance.new.nodes v c.args.place (record { top = c.balance.result; place = p; item = c.in-Some.cut.item; fork = c.in-Some.cut.fork })) place
    (cut_whole w.side ns top a b c.args.place w.place v D G c.remove_under.new.nodes c.in-Some.cut C c.balance.new.nodes c.balance.result B)
