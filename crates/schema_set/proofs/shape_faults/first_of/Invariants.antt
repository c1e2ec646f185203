use Rattle.std.proofs.Common.{take}
use Rattle.std.specs.Prelude.{Contains}
use Rattle.std.specs.List.{flat_map}
use Rattle.xs_codes.specs.Least.{IsLeast}
use Rattle.schema_set.specs.inside.Reads.{document_faults}
use Rattle.schema_set.proofs.shape_faults.first_of.Given as goal

abbrev pub invariant-loop-document : goal.invariant-loop-document
invariant-loop-document l = IsLeast (Contains (flat_map (document_faults l.faults) (take l.document-index l.set))) l.first
