use Rattle.redefine_originals.specs.inside.Entries.{child_entry}
use Rattle.redefine_faults.proofs.FaultLaws.{undeclared}
use Rattle.redefine_faults.proofs.faults.child_code.Goals as goal

pub returns-in-None : goal.returns-in-None
returns-in-None c = undeclared c.args.originals.now.sources.available.now c.args.document.now (child_entry c.args.child) c.in-None.ensures
