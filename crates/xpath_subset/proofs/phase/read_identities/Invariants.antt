use Rattle.std.proofs.Common.{◌≡◌, None, take}
use Rattle.std.specs.Prelude.{Any}
use Rattle.std.specs.List.{AllZip}
use Rattle.xs_codes.specs.Least.{IsLeast}
use Rattle.xpath_subset.specs.Reads.{ArePathsOf}
use Rattle.xpath_subset.specs.Faults.{IsFaultOf}
use Rattle.xpath_subset.proofs.phase.read_identities.Given as goal

abbrev pub invariant-loop-constraint : goal.invariant-loop-constraint
invariant-loop-constraint l = record {
  least : IsLeast (λ fault. Any (λ c. IsFaultOf l.parts c fault) (take l.constraint-index l.parts.constraints.parts)) l.best;
  paths : l.best ≡ None → AllZip ArePathsOf (take l.constraint-index l.parts.constraints.parts) l.identities.items;
}
