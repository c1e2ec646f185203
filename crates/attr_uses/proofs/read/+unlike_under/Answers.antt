use Rattle.std.proofs.Common.{ℕ, ◌+◌, ◌<◌, ◌≤◌, ◌-◌, ◌^◌, None, Some, arith, ap, sym, subst, ◌∙◌}
use Rattle.std.specs.Option.{option_map}
use Rattle.attr_uses.specs.Nodes.{node_left, node_right, find}
use Rattle.attr_uses.specs.Maps.{IsNextUnlike}
use Rattle.attr_uses.proofs.UnlikeLaws.{unlike-in-upper, unlike-in-lower, unlike-below}
use Rattle.attr_uses.proofs.read.+unlike_under.Goals as goal

pub returns-then-from-half : goal.returns-then-from-half
returns-then-from-half t c =
    let half = c.half_of-half.ensures in
    let one' = ap (λ p. p.1) c.sides-left.ensures ∙ ap node_right c.node_of.ensures in
    let other' = ap (λ p. p.1) c.sides-other_left.ensures ∙ ap node_right c.node_of-2.ensures in
    let big : 2 ^ (c.args.levels - 1) ≤ c.args.from = rw (← half) (omega arith) in
    record {
      next = unlike-in-upper c.args.nodes.now c.args.levels c.args.one c.args.other c.args.from (omega arith) c.requires.one_shape c.requires.other_shape
          (λ name a b. absurd (omega (arith, a, b, big))) (c.args.from - c.half_of-half.result) (ap (λ k. c.args.from - k) half) c.unlike_under.result c.beyond.result
          (unlike-below c.args.nodes.now (c.args.levels - 1) _ _ _ _ one' other' (c.args.from - c.half_of-half.result) c.unlike_under.result c.unlike_under.ensures.next)
          (c.beyond.ensures ∙ ap (λ h. option_map (λ (n : ℕ). h + n) c.unlike_under.result) half);
    }

pub returns-in-Some : goal.returns-in-Some
returns-in-Some t c =
    let one' = ap (λ p. p.0) c.sides-left.ensures ∙ ap node_left c.node_of.ensures in
    let other' = ap (λ p. p.0) c.sides-other_left.ensures ∙ ap node_left c.node_of-2.ensures in
    record {
      next = unlike-in-lower c.args.nodes.now c.args.levels c.args.one c.args.other c.args.from (omega arith) c.requires.one_shape c.requires.other_shape c.in-Some.name
          (unlike-below c.args.nodes.now (c.args.levels - 1) _ _ _ _ one' other' c.args.from (Some c.in-Some.name) c.in-Some.ensures.next);
    }

pub returns-in-None : goal.returns-in-None
returns-in-None t c =
    let half = c.half_of-half.ensures in
    let left' = ap (λ p. p.0) c.sides-left.ensures ∙ ap node_left c.node_of.ensures in
    let other_left' = ap (λ p. p.0) c.sides-other_left.ensures ∙ ap node_left c.node_of-2.ensures in
    let right' = ap (λ p. p.1) c.sides-left.ensures ∙ ap node_right c.node_of.ensures in
    let other_right' = ap (λ p. p.1) c.sides-other_left.ensures ∙ ap node_right c.node_of-2.ensures in
    let small : c.args.from < 2 ^ (c.args.levels - 1) = rw (← half) (omega arith) in
    record {
      next = unlike-in-upper c.args.nodes.now c.args.levels c.args.one c.args.other c.args.from (omega arith) c.requires.one_shape c.requires.other_shape
          (unlike-below c.args.nodes.now (c.args.levels - 1) _ _ _ _ left' other_left' c.args.from None c.in-None.ensures.next)
          0 (omega (arith, small)) c.unlike_under-in-None.result c.beyond-in-None.result
          (unlike-below c.args.nodes.now (c.args.levels - 1) _ _ _ _ right' other_right' 0 c.unlike_under-in-None.result c.unlike_under-in-None.ensures.next)
          (c.beyond-in-None.ensures ∙ ap (λ h. option_map (λ (n : ℕ). h + n) c.unlike_under-in-None.result) half);
    }
