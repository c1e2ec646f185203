use Rattle.std.proofs.Common.{map}
use Rattle.redefine_originals.specs.inside.Entries.{child_entry}
use Rattle.redefine_faults.specs.inside.Broken.{IsChildFault}
use Rattle.redefine_faults.proofs.FaultLaws.{least-none, least-mapped, least-all-mapped}
use Rattle.redefine_faults.proofs.faults.children_fault.Goals as goal

pub loop-child-init : goal.loop-child-init
loop-child-init c = least-none (IsChildFault c.args.originals.now.sources.available.now c.args.document.now) (map child_entry c.args.children.now)

pub loop-child-preserved : goal.loop-child-preserved
loop-child-preserved c =
    least-mapped (IsChildFault c.args.originals.now.sources.available.now c.args.document.now) child_entry c.args.children.now c.loop-child.child-index c.child-item.result c.loop-child.first c.in_ok-found.found c.sooner-first.result
    c.loop-child-test.true c.child-item.is c.sooner-first.ensures.sooner c.loop-child.invariant c.in_ok-found.ensures

pub returns : goal.returns
returns c = least-all-mapped (IsChildFault c.args.originals.now.sources.available.now c.args.document.now) child_entry c.args.children.now c.loop-child.child-index c.loop-child.first c.loop-child-test.false c.loop-child.invariant
