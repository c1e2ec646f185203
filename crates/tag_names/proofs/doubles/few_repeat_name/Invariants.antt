use Rattle.std.proofs.Common.{◌≡◌, length}
use Rattle.tag_names.specs.Faults.{repeats_name}
use Rattle.tag_names.proofs.doubles.few_repeat_name.Given as goal

abbrev pub invariant-left : goal.invariant-left
invariant-left l = repeats_name l.left ≡ repeats_name l.attributes

abbrev pub decreases-left : goal.decreases-left
decreases-left l = length l.left
