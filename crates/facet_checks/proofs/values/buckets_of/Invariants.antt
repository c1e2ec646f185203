use Rattle.std.proofs.Common.{take}
use Rattle.facet_checks.specs.inside.Buckets.{AreBuckets}
use Rattle.facet_checks.proofs.values.buckets_of.Given as goal

abbrev pub invariant-loop-value : goal.invariant-loop-value
invariant-loop-value l = AreBuckets (take l.value-index l.values) l.buckets.items
