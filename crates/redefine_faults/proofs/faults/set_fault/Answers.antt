use Rattle.redefine_faults.specs.inside.Broken.{IsDocumentFault}
use Rattle.redefine_faults.proofs.FaultLaws.{least-none, least-more, least-all}
use Rattle.redefine_faults.proofs.faults.set_fault.Goals as goal

pub loop-document-init : goal.loop-document-init
loop-document-init c = least-none (IsDocumentFault c.args.originals.now.sources.available.now) c.args.set.now

pub loop-document-preserved : goal.loop-document-preserved
loop-document-preserved c =
    least-more (IsDocumentFault c.args.originals.now.sources.available.now) c.args.set.now c.loop-document.document-index c.document-item.result c.loop-document.first c.in_ok-found.found c.sooner-first.result
    c.loop-document-test.true c.document-item.is c.sooner-first.ensures.sooner c.loop-document.invariant c.in_ok-found.ensures

pub returns : goal.returns
returns c = least-all (IsDocumentFault c.args.originals.now.sources.available.now) c.args.set.now c.loop-document.document-index c.loop-document.first c.loop-document-test.false c.loop-document.invariant
