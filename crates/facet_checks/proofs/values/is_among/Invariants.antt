use Rattle.std.proofs.Common.{◌≡◌, drop}
use Rattle.facet_checks.specs.Check.{is_among}
use Rattle.facet_checks.proofs.values.is_among.Given as goal

abbrev pub invariant-loop-other : goal.invariant-loop-other
invariant-loop-other l = is_among (drop l.other-index l.values) l.value ≡ is_among l.values l.value
