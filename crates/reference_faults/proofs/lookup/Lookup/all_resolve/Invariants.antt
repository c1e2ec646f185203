use Rattle.std.proofs.Common.{◌≡◌, drop}
use Rattle.std.specs.List.{list_all}
use Rattle.reference_faults.specs.Resolution.{resolves}
use Rattle.reference_faults.proofs.lookup.Lookup.all_resolve.Given as goal

abbrev pub invariant-loop-reference : goal.invariant-loop-reference
invariant-loop-reference l = list_all (resolves l.self.spaces.now l.self.kinds.now) (drop l.reference-index l.refs) ≡ list_all (resolves l.self.spaces.now l.self.kinds.now) l.refs
