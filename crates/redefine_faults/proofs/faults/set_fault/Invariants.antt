use Rattle.std.proofs.Common.{take}
use Rattle.xs_codes.specs.Least.{IsLeast}
use Rattle.redefine_faults.specs.inside.Broken.{IsDocumentFault, IsOneOf}
use Rattle.redefine_faults.proofs.faults.set_fault.Given as goal

abbrev pub invariant-loop-document : goal.invariant-loop-document
invariant-loop-document l = IsLeast (IsOneOf (IsDocumentFault l.originals.sources.available.now) (take l.document-index l.set)) l.first
