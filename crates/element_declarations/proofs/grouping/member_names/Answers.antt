use Rattle.std.proofs.Common.{sym, subst}
use Rattle.element_declarations.specs.inside.Steps.{IsInOrder}
use Rattle.element_declarations.proofs.GroupLaws.{groups-begin, groups-more, groups-end}
use Rattle.element_declarations.proofs.grouping.member_names.Goals as goal

pub loop-element-init : goal.loop-element-init
loop-element-init c = (
  subst (IsInOrder c.args.parts.now) (sym c.deref-element-items.ensures.value) c.in_ok-order.ensures,
  groups-begin c.args.parts.now c.deref-element-items.result.now c.in_ok-lists.lists.items c.in_ok-lists.ensures,
)

pub loop-element-preserved : goal.loop-element-preserved
loop-element-preserved c = (
  c.loop-element.invariant.0,
  groups-more c.args.parts.now c.deref-element-items.result.now c.loop-element.element-index c.element-item.result c.loop-element.lists.items c.join.new.lists.items
      c.loop-element.invariant.0 c.loop-element-test.true c.element-item.is c.loop-element.invariant.1 c.in_ok-join.ensures,
)

pub returns : goal.returns
returns c =
    groups-end c.args.parts.now c.deref-element-items.result.now c.loop-element.element-index c.loop-element.lists.items c.loop-element.invariant.0 c.loop-element-test.false c.loop-element.invariant.1
