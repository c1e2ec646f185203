use Rattle.schema_set.proofs.ShapeFaultLaws.{set-least}
use Rattle.schema_set.proofs.shape_faults.first_shape_fault.Goals as goal

pub returns : goal.returns
returns c = record { least = λ inputs start same is. set-least inputs start c.args.set.now is c.args.faults.now same c.first_of.result c.first_of.ensures.least }
