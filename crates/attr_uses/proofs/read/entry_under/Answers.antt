use Rattle.std.proofs.Common.{◌<◌, ◌-◌, length, arith, ap, sym, subst, ◌∙◌}
use Rattle.attr_uses.specs.Nodes.{node_at, node_right, find}
use Rattle.attr_uses.proofs.CallLaws.{found-lower, found-upper}
use Rattle.attr_uses.proofs.read.entry_under.Goals as goal

pub loop-levels-preserved-then-rest-half : goal.loop-levels-preserved-then-rest-half
loop-levels-preserved-then-rest-half c =
    let inv = c.loop-levels.invariant in
    let are = c.requires.nodes in
    let side = ap (λ p. p.0) c.sides_at-left.ensures in
    record {
      few = omega arith;
      there = subst (λ n. n < length c.args.nodes.now) (sym side) (are.each c.loop-levels.at inv.there).left;
      same = ap (λ n. find c.args.nodes.now (c.loop-levels.levels - 1) n c.loop-levels.rest) side ∙
          found-lower c.args.nodes.now c.loop-levels.levels c.loop-levels.at c.loop-levels.rest _ are inv.there (omega arith) inv.same (subst (λ k. c.loop-levels.rest < k) c.half_of-half.ensures c.if-rest-half.true);
    }

pub loop-levels-preserved : goal.loop-levels-preserved
loop-levels-preserved c =
    let inv = c.loop-levels.invariant in
    let are = c.requires.nodes in
    let side = ap (λ p. p.1) c.sides_at-left.ensures in
    record {
      few = omega arith;
      there = subst (λ n. n < length c.args.nodes.now) (sym side) (are.each c.loop-levels.at inv.there).right;
      same = ap (λ n. find c.args.nodes.now (c.loop-levels.levels - 1) n (c.loop-levels.rest - c.half_of-half.result)) side ∙
          (ap (λ k. find c.args.nodes.now (c.loop-levels.levels - 1) (node_right (node_at c.args.nodes.now c.loop-levels.at)) (c.loop-levels.rest - k)) c.half_of-half.ensures ∙
          found-upper c.args.nodes.now c.loop-levels.levels c.loop-levels.at c.loop-levels.rest _ are inv.there (omega arith) inv.same (rw (← c.half_of-half.ensures) (omega arith)));
    }
