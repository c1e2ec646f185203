use Rattle.std.proofs.Common.{◌≡◌, ◌<◌, length, rules, arith, ap, sym, subst, ◌∙◌}
use Rattle.attr_uses.specs.Nodes.{node_at, node_left, node_right}
use Rattle.attr_uses.proofs.GrowLaws.{grows-longer}
use Rattle.attr_uses.proofs.CallLaws.{halves, no-leaf-kept, put-in-lower, put-in-upper, small-upper}
use Rattle.attr_uses.proofs.grow.+put_under.Goals as goal

pub fork-requires-clause-shape : goal.fork-requires-clause-shape
fork-requires-clause-shape t c =
    no-leaf-kept c.args.nodes.now.items c.put_under.new.nodes.items c.args.at c.in_ok-left.ensures.grown.more c.requires.there
    (halves c.args.nodes.now.items c.args.levels c.args.at (omega arith) c.requires.shape).0

pub put_under-requires-else-name-half : goal.put_under-requires-else-name-half
put_under-requires-else-name-half t c =
    let node : c.node_of-node.result ≡ node_at c.args.nodes.now.items c.args.at = search rules in
    let side = ap (λ p. p.1) c.sides-left.ensures ∙ ap node_right node in (
      omega arith,
      (
        c.requires.nodes,
        (
          omega arith,
          (
            subst (λ n. n < length c.args.nodes.now.items) (sym side) (c.requires.nodes.each c.args.at c.requires.there).right,
            (
              rw side (halves c.args.nodes.now.items c.args.levels c.args.at (omega arith) c.requires.shape).2,
              rw c.half_of-half.ensures (small-upper c.args.levels c.args.name (omega arith) c.requires.name (rw (← c.half_of-half.ensures) (omega arith))),
            ),
          ),
        ),
      ),
    )

pub fork-requires-else-name-half-clause-left : goal.fork-requires-else-name-half-clause-left
fork-requires-else-name-half-clause-left t c =
    let node : c.node_of-node.result ≡ node_at c.args.nodes.now.items c.args.at = search rules in
    let side = ap (λ p. p.0) c.sides-left.ensures ∙ ap node_left node in
    rw side (grows-longer c.args.nodes.now.items c.put_under-else-name-half.new.nodes.items _ c.in_ok-right.ensures.grown.more (c.requires.nodes.each c.args.at c.requires.there).left)

pub fork-requires-else-name-half-clause-shape : goal.fork-requires-else-name-half-clause-shape
fork-requires-else-name-half-clause-shape t c =
    no-leaf-kept c.args.nodes.now.items c.put_under-else-name-half.new.nodes.items c.args.at c.in_ok-right.ensures.grown.more c.requires.there
    (halves c.args.nodes.now.items c.args.levels c.args.at (omega arith) c.requires.shape).0

pub returns-in_ok-left-clause-put : goal.returns-in_ok-left-clause-put
returns-in_ok-left-clause-put t c =
    let node : c.node_of-node.result ≡ node_at c.args.nodes.now.items c.args.at = search rules in
    let left' = ap (λ p. p.0) c.sides-left.ensures ∙ ap node_left node in
    let right' = ap (λ p. p.1) c.sides-left.ensures ∙ ap node_right node in
    put-in-lower c.args.nodes.now.items c.put_under.new.nodes.items c.fork.new.nodes.items c.args.levels c.args.at c.args.name c.args.entry c.in_ok-left.left c.sides-left.result.1 (omega arith)
    c.requires.nodes c.in_ok-left.ensures.grown c.fork.ensures.grown c.requires.there c.requires.shape
    (rw (← c.half_of-half.ensures) c.if-name-half.true) (rw (← left') c.in_ok-left.ensures.put) right' c.fork.result c.fork.ensures.there c.fork.ensures.no_leaf c.fork.ensures.left c.fork.ensures.right

pub returns-in_ok-right-clause-put : goal.returns-in_ok-right-clause-put
returns-in_ok-right-clause-put t c =
    let node : c.node_of-node.result ≡ node_at c.args.nodes.now.items c.args.at = search rules in
    let left' = ap (λ p. p.0) c.sides-left.ensures ∙ ap node_left node in
    let right' = ap (λ p. p.1) c.sides-left.ensures ∙ ap node_right node in
    put-in-upper c.args.nodes.now.items c.put_under-else-name-half.new.nodes.items c.fork-else-name-half.new.nodes.items c.args.levels c.args.at c.args.name c.args.entry c.sides-left.result.0 c.in_ok-right.right (omega arith)
    c.requires.nodes c.in_ok-right.ensures.grown c.fork-else-name-half.ensures.grown c.requires.there c.requires.shape
    (rw (← c.half_of-half.ensures) (omega arith)) (rw (← right', ← c.half_of-half.ensures) c.in_ok-right.ensures.put) left' c.fork-else-name-half.result c.fork-else-name-half.ensures.there c.fork-else-name-half.ensures.no_leaf c.fork-else-name-half.ensures.left c.fork-else-name-half.ensures.right
