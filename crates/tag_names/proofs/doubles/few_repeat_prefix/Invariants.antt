use Rattle.std.proofs.Common.{◌≡◌, length}
use Rattle.tag_names.specs.Faults.{repeats_prefix}
use Rattle.tag_names.proofs.doubles.few_repeat_prefix.Given as goal

abbrev pub invariant-left : goal.invariant-left
invariant-left l = repeats_prefix l.left ≡ repeats_prefix l.bindings

abbrev pub decreases-left : goal.decreases-left
decreases-left l = length l.left
