use Rattle.std.proofs.Common.{Option, subst, arith}
use Rattle.std.specs.Prelude.{Contains}
use Rattle.std.specs.Option.{option_to_list}
use Rattle.xs_codes.specs.declared.fault.Fault.{Fault}
use Rattle.xs_codes.specs.Least.{IsLeast}
use Rattle.schema_set.proofs.FaultLaws.{least-none, least-more, least-all}
use Rattle.schema_set.specs.inside.Reads.{document_faults}
use Rattle.schema_set.proofs.ShapeFaultLaws.{option-least}
use Rattle.schema_set.proofs.shape_faults.first_of.Goals as goal

pub loop-document-init : goal.loop-document-init
loop-document-init c = least-none (document_faults c.args.faults.now) c.args.set.now

pub loop-document-preserved : goal.loop-document-preserved
loop-document-preserved c =
    least-more (document_faults c.args.faults.now) c.args.set.now c.loop-document.document-index c.document-item.result c.loop-document.first c.fault_of-found.result c.sooner-first.result
    c.loop-document-test.true c.document-item.is c.sooner-first.ensures.sooner c.loop-document.invariant
    (subst (λ (o : Option Fault). IsLeast (Contains (option_to_list o)) c.fault_of-found.result) c.fault_of-found.ensures (option-least c.fault_of-found.result))

pub returns : goal.returns
returns c = record { least = least-all (document_faults c.args.faults.now) c.args.set.now c.loop-document.document-index c.loop-document.first (let l = c.loop-document-test.false in omega arith) c.loop-document.invariant }
