use Rattle.std.proofs.Common.{rules, arith, ◌≡◌, ◌≤◌, ◌∙◌, ap}
use Rattle.schema_values.specs.Places.{kind_below}
use Rattle.schema_shape.proofs.WalkLaws.{fewer_behind, entered, with_below}
use Rattle.schema_shape.proofs.walk.+walk.Goals as goal

pub walk-left-preserved-in_ok-enter : goal.walk-left-preserved-in_ok-enter
walk-left-preserved-in_ok-enter t c =
    let below = c.kind_below.ensures ∙ ap (kind_below c.args.parent) c.tag_of.ensures in
    record {
      fewer = fewer_behind c.args.siblings c.left.left c.in-Some.field-0.children c.in-Some.field-0.next c.in-Some.field-0.row.now c.in-Some.ensures c.left.invariant.fewer;
      found = entered c.args.parent c.kind_below.result c.args.above c.left.scope c.left.left c.in-Some.field-0.children c.in-Some.field-0.next c.in-Some.field-0.row.now c.in-Element.name c.in-Some.ensures c.in-Element.is below c.enter.new.scope c.left.found c.enter.new.found _ c.left.invariant.found c.in_ok-enter.ensures.scope c.in_ok-enter.ensures.found;
      scope = c.in_ok-enter.ensures.scope ∙ c.left.invariant.scope;
    }

pub enter-returns-clause-found : goal.enter-returns-clause-found
enter-returns-clause-found t c =
    with_below c.args.kind c.args.above c.nearest-within.result c.args.scope.now c.bind_all.new.self c.as_slice-bindings.result.now c.args.row.now c.as_slice.result.now c.args.children c.again.result c.args.found.now c.judge.new.found c.walk.new.found
    c.as_slice-bindings.ensures c.as_slice.ensures c.again.ensures c.in_ok-bind_all.ensures.ok c.in_ok-judge.ensures c.nearest-within.ensures c.in_ok-walk.ensures.found
