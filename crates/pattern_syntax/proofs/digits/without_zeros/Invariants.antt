use Rattle.std.proofs.Common.{◌≡◌, length}
use Rattle.pattern_syntax.specs.Numbers.{skip_zeros}
use Rattle.pattern_syntax.proofs.digits.without_zeros.Given as goal

abbrev pub invariant-zeros : goal.invariant-zeros
invariant-zeros l = skip_zeros l.rest ≡ skip_zeros l.fn.digits

abbrev pub decreases-zeros : goal.decreases-zeros
decreases-zeros l = length l.rest
