use Rattle.std.proofs.Common.{sym, subst}
use Rattle.schema_models.specs.inside.Steps.{IsInOrder}
use Rattle.schema_models.proofs.FillLaws.{begins, visited, ends}
use Rattle.schema_models.proofs.filling.fill.Goals as goal

pub loop-id-init : goal.loop-id-init
loop-id-init c = (
  subst (IsInOrder c.args.source.parts.now) (sym c.deref-id-items.ensures.value) c.in_ok-order.ensures,
  begins c.args.source.names.now c.args.source.parts.now c.args.source.members.now c.args.source.classes.now c.deref-id-items.result.now
      (subst (IsInOrder c.args.source.parts.now) (sym c.deref-id-items.ensures.value) c.in_ok-order.ensures) c.args.models.now c.requires.each c.requires.none,
)

pub loop-id-preserved : goal.loop-id-preserved
loop-id-preserved c = (
  c.loop-id.invariant.0,
  visited c.args.source.names.now c.args.source.parts.now c.args.source.members.now c.args.source.classes.now c.deref-id-items.result.now c.loop-id.invariant.0 c.loop-id.id-index c.id-item.result
      c.loop-id.models c.visit.new.models c.loop-id.progress c.visit.new.progress c.loop-id-test.true c.id-item.is c.loop-id.invariant.1 c.in_ok-visit.ensures,
)

pub returns : goal.returns
returns c =
    ends c.args.source.names.now c.args.source.parts.now c.args.source.members.now c.args.source.classes.now c.deref-id-items.result.now c.loop-id.invariant.0 c.loop-id.id-index c.loop-id.models
    c.loop-id.progress.cells_left c.loop-id.progress.first c.loop-id-test.false c.loop-id.invariant.1
