use Rattle.std.proofs.Common.{◌≡◌, refl, ap, ◌∙◌}
use Rattle.leaf_trees.specs.Arena.{at}
use Rattle.leaf_trees.specs.Side.{other, below, on, fork_on}
use Rattle.leaf_trees.proofs.Turns.{turn_first, turn_second, turns, high_side}
use Rattle.leaf_trees.proofs.balance.turn.Goals as goal

pub link_on-requires : goal.link_on-requires
link_on-requires c =
    let q = c.requires in let ns = c.args.nodes.now in let s = c.args.side in let i = c.args.i in let b = c.args.high in
    let e : c.on.result ≡ below (other s) (at ns b) = c.on.ensures ∙ ap (λ x. below x (at ns b)) c.other.ensures in
    let f = high_side s ns i b c.args.low (below s (at ns b)) c.on.result q.0 q.1 q.2 q.3 refl e in
    (on (other s) f.l f.r, q.1, turn_first s ns i b c.args.low (below s (at ns b)) c.on.result f.l f.r q.1 f.sides f.inner)

pub link_on-requires-2 : goal.link_on-requires-2
link_on-requires-2 c =
    let q = c.requires in let ns = c.args.nodes.now in let s = c.args.side in let i = c.args.i in let b = c.args.high in
    let x = c.on-2.result in let y = c.on.result in
    let e : y ≡ below (other s) (at ns b) = c.on.ensures ∙ ap (λ v. below v (at ns b)) c.other.ensures in
    let f = high_side s ns i b c.args.low x y q.0 q.1 q.2 q.3 c.on-2.ensures e in
    let B = c.link_on.ensures (on (other s) f.l f.r) q.1 (turn_first s ns i b c.args.low x y f.l f.r q.1 f.sides f.inner) in
    (on s f.l f.r, fork_on s i (on (other s) f.l f.r) q.1, turn_second s ns i b c.args.low x y f.l f.r q.1 f.sides f.inner c.link_on.new.nodes B)

pub returns : goal.returns
returns c = λ t u S h.
    let ns = c.args.nodes.now in let s = c.args.side in let b = c.args.high in
    let e : c.on.result ≡ below (other s) (at ns b) = c.on.ensures ∙ ap (λ x. below x (at ns b)) c.other.ensures in
    turns s ns c.link_on.new.nodes c.link_on-2.new.nodes c.args.i b c.args.low c.on-2.result c.on.result t u S h c.on-2.ensures e c.link_on.ensures c.link_on-2.ensures
