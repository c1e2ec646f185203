use Rattle.std.proofs.Common.{get_or, take, take_all, arith}
use Rattle.std.specs.Prelude.{IsSome, nat_eq}
use Rattle.std.specs.HashMap.{get}
use Rattle.std.proofs.lemmas.List.Elements.{All-more, All-weaker, Contains-get_or}
use Rattle.particle_forms.proofs.NodeLaws.{before}
use Rattle.particle_forms.proofs.ordered_nodes.nodes_of.Goals as goal

pub add_part-requires-clause-known : goal.add_part-requires-clause-known
add_part-requires-clause-known c =
    let order = c.args.order.now in
    let i = c.loop-id.id-index in
    before c.args.parts.now c.requires.ranked order i (λ y. IsSome (get nat_eq c.loop-id.numbers y)) c.loop-id-test.true c.requires.rises
    (c.requires.closed (get_or order i 0) (Contains-get_or order i 0 c.loop-id-test.true)) c.loop-id.invariant.known

pub loop-id-preserved : goal.loop-id-preserved
loop-id-preserved c = record {
  right = c.in_ok-add_part.ensures.right;
  known = All-more (λ y. IsSome (get nat_eq c.add_part.new.numbers y)) c.args.order.now c.loop-id.id-index 0 c.loop-id-test.true
      (All-weaker (λ y. IsSome (get nat_eq c.loop-id.numbers y)) (λ y. IsSome (get nat_eq c.add_part.new.numbers y)) c.in_ok-add_part.ensures.kept (take c.loop-id.id-index c.args.order.now) c.loop-id.invariant.known)
      c.in_ok-add_part.ensures.itself;
}

pub returns-clause-known : goal.returns-clause-known
returns-clause-known c = rw (take_all c.loop-id.id-index c.args.order.now (omega (arith, c.loop-id-test.false))) at c.loop-id.invariant.known
