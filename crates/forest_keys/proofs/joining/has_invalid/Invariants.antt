use Rattle.std.proofs.Common.{◌≡◌, length}
use Rattle.what_is_found.specs.Identity.{has_invalid}
use Rattle.forest_keys.specs.inside.Parsed.{assessed_of}
use Rattle.forest_keys.proofs.joining.has_invalid.Given as goal

abbrev pub invariant-left : goal.invariant-left
invariant-left l = has_invalid (assessed_of l.siblings) ≡ has_invalid (assessed_of l.left)

abbrev pub decreases-left : goal.decreases-left
decreases-left l = length l.left
