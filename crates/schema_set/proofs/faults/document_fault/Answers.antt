use Rattle.std.proofs.Common.{subst}
use Rattle.std.specs.Prelude.{Contains}
use Rattle.std.specs.List.{flat_map}
use Rattle.xs_codes.specs.Least.{IsLeast}
use Rattle.schema_set.specs.inside.Faults.{shape_faults}
use Rattle.schema_set.proofs.faults.document_fault.Goals as goal

pub returns : goal.returns
returns c = subst (λ xs. IsLeast (Contains (flat_map (shape_faults c.args.sources.now.available.now c.args.document.now) xs)) c.in_ok-first.first) c.as_slice-shapes.ensures c.in_ok-first.ensures
