use Rattle.std.proofs.Common.{arith}
use Rattle.schema_set.specs.inside.Faults.{document_faults}
use Rattle.schema_set.proofs.FaultLaws.{least-none, least-more, least-all}
use Rattle.schema_set.proofs.faults.first_fault.Goals as goal

pub loop-document-init : goal.loop-document-init
loop-document-init c = least-none (document_faults c.args.sources.now.available.now) c.args.documents.now

pub loop-document-preserved : goal.loop-document-preserved
loop-document-preserved c =
    least-more (document_faults c.args.sources.now.available.now) c.args.documents.now c.loop-document.document-index c.document-item.result c.loop-document.first c.in_ok-found.found c.sooner-first.result
    c.loop-document-test.true c.document-item.is c.sooner-first.ensures.sooner c.loop-document.invariant c.in_ok-found.ensures

pub returns : goal.returns
returns c = least-all (document_faults c.args.sources.now.available.now) c.args.documents.now c.loop-document.document-index c.loop-document.first (let l = c.loop-document-test.false in omega arith) c.loop-document.invariant
