use Rattle.std.proofs.Common.{arith}
use Rattle.schema_set.specs.inside.Faults.{shape_faults}
use Rattle.schema_set.proofs.FaultLaws.{least-none, least-more, least-all}
use Rattle.schema_set.proofs.faults.shapes_fault.Goals as goal

pub loop-shape-init : goal.loop-shape-init
loop-shape-init c = least-none (shape_faults c.args.sources.now.available.now c.args.document.now) c.args.shapes.now

pub loop-shape-preserved : goal.loop-shape-preserved
loop-shape-preserved c =
    least-more (shape_faults c.args.sources.now.available.now c.args.document.now) c.args.shapes.now c.loop-shape.shape-index c.shape-item.result c.loop-shape.first c.in_ok-found.found c.sooner-first.result
    c.loop-shape-test.true c.shape-item.is c.sooner-first.ensures.sooner c.loop-shape.invariant c.in_ok-found.ensures

pub returns : goal.returns
returns c = least-all (shape_faults c.args.sources.now.available.now c.args.document.now) c.args.shapes.now c.loop-shape.shape-index c.loop-shape.first (let l = c.loop-shape-test.false in omega arith) c.loop-shape.invariant
