use Rattle.std.proofs.Common.{subst, sym}
use Rattle.xs_codes.specs.Least.{IsLeast}
use Rattle.redefine_originals.specs.inside.Entries.{child_entry}
use Rattle.redefine_faults.specs.inside.Broken.{IsChildFault}
use Rattle.redefine_faults.proofs.FaultLaws.{child-least}
use Rattle.redefine_faults.proofs.faults.child_fault.Goals as goal

pub returns : goal.returns
returns c =
    subst (IsLeast (IsChildFault c.args.originals.now.sources.available.now c.args.document.now (child_entry c.args.child))) (sym c.fault_of.ensures)
    (child-least c.args.originals.now.sources.available.now c.args.document.now (child_entry c.args.child) c.in_ok-code.code c.in_ok-code.ensures)
