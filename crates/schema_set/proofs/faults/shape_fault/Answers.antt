use Rattle.schema_set.proofs.FaultLaws.{shape-first}
use Rattle.schema_set.proofs.faults.shape_fault.Goals as goal

pub returns : goal.returns
returns c = shape-first c.args.sources.now.available.now c.args.document.now c.args.shape.now _ c.in_ok-code.code c.fault_of.result c.as_ref.ensures.value c.in_ok-code.ensures c.fault_of.ensures
