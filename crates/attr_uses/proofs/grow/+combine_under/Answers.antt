use Rattle.std.proofs.Common.{◌≡◌, ◌-◌, rules, arith, ap, ◌∙◌, inl, inr}
use Rattle.attr_uses.specs.Nodes.{node_at, node_left, node_right}
use Rattle.attr_uses.proofs.GrowLaws.{grows-longer, grows-on, shape-kept}
use Rattle.attr_uses.proofs.StepLaws.{combines_nothing, combines_kept}
use Rattle.attr_uses.proofs.CallLaws.{halves, no-leaf-kept, combine-in-fork}
use Rattle.attr_uses.proofs.grow.+combine_under.Goals.{then-second-eq0-via-then-second-eq0, then-second-eq0-via-else-second-eq0+then-first-second}
use Rattle.attr_uses.proofs.grow.+combine_under.Goals as goal

pub returns-then-first-eq0-clause-combined : goal.returns-then-first-eq0-clause-combined
returns-then-first-eq0-clause-combined t c =
    rw c.if-first-eq0.true (combines_nothing c.args.how c.args.nodes.now.items c.args.levels c.args.second c.requires.nodes c.requires.second c.requires.second_shape)

pub returns-then-second-eq0-clause-combined : goal.returns-then-second-eq0-clause-combined
returns-then-second-eq0-clause-combined t c =
    rw c.kept.ensures (combines_kept c.args.how c.args.nodes.now.items c.args.levels c.args.first c.args.second c.requires.nodes c.requires.first c.requires.first_shape
    (elim c.then-second-eq0.branch [ then-second-eq0-via-then-second-eq0 w ↦ inl w.if-second-eq0.true | then-second-eq0-via-else-second-eq0+then-first-second w ↦ inr w.if-first-second.true ]))

pub combine_under-requires-2 : goal.combine_under-requires-2
combine_under-requires-2 t c =
    let first' : c.node_of-one.result ≡ node_at c.args.nodes.now.items c.args.first = search rules in
    let second' : c.node_of-two.result ≡ node_at c.args.nodes.now.items c.args.second = search rules in
    let one = ap (λ p. p.1) c.sides-3.ensures ∙ ap node_right first' in
    let two = ap (λ p. p.1) c.sides-4.ensures ∙ ap node_right second' in
    let g = c.in_ok-left.ensures.grown in
    let first = c.requires.nodes.each c.args.first c.requires.first in
    let second = c.requires.nodes.each c.args.second c.requires.second in (
      omega arith,
      (
        g.are,
        (
          rw one (grows-longer c.args.nodes.now.items c.combine_under.new.nodes.items _ g.more first.right),
          (
            rw two (grows-longer c.args.nodes.now.items c.combine_under.new.nodes.items _ g.more second.right),
            (
              rw one (shape-kept c.args.nodes.now.items c.combine_under.new.nodes.items c.requires.nodes g.more (c.args.levels - 1) _ first.right (halves c.args.nodes.now.items c.args.levels c.args.first (omega arith) c.requires.first_shape).2),
              rw two (shape-kept c.args.nodes.now.items c.combine_under.new.nodes.items c.requires.nodes g.more (c.args.levels - 1) _ second.right (halves c.args.nodes.now.items c.args.levels c.args.second (omega arith) c.requires.second_shape).2),
            ),
          ),
        ),
      ),
    )

pub fork-requires-clause-shape : goal.fork-requires-clause-shape
fork-requires-clause-shape t c =
    no-leaf-kept c.args.nodes.now.items c.combine_under-2.new.nodes.items c.args.second (grows-on c.args.nodes.now.items c.combine_under.new.nodes.items c.combine_under-2.new.nodes.items c.in_ok-left.ensures.grown.more c.in_ok-right.ensures.grown.more) c.requires.second
    (halves c.args.nodes.now.items c.args.levels c.args.second (omega arith) c.requires.second_shape).0

pub returns-clause-combined : goal.returns-clause-combined
returns-clause-combined t c =
    let first' : c.node_of-one.result ≡ node_at c.args.nodes.now.items c.args.first = search rules in
    let second' : c.node_of-two.result ≡ node_at c.args.nodes.now.items c.args.second = search rules in
    let one = ap (λ p. p.0) c.sides.ensures ∙ ap node_left first' in
    let two = ap (λ p. p.0) c.sides-2.ensures ∙ ap node_left second' in
    let three = ap (λ p. p.1) c.sides-3.ensures ∙ ap node_right first' in
    let four = ap (λ p. p.1) c.sides-4.ensures ∙ ap node_right second' in
    combine-in-fork c.args.how c.args.nodes.now.items c.combine_under.new.nodes.items c.combine_under-2.new.nodes.items c.fork.new.nodes.items c.args.levels c.args.first c.args.second c.in_ok-left.left c.in_ok-right.right (omega arith)
    c.requires.nodes c.in_ok-left.ensures.grown c.in_ok-right.ensures.grown c.fork.ensures.grown c.requires.first c.requires.second
    (rw (← one, ← two) c.in_ok-left.ensures.combined) (rw (← three, ← four) c.in_ok-right.ensures.combined)
    c.fork.result c.fork.ensures.there c.fork.ensures.no_leaf c.fork.ensures.left c.fork.ensures.right
