use Rattle.std.proofs.Common.{◌≡◌, drop}
use Rattle.set_representations.specs.Numbers as spec
use Rattle.set_representations.proofs.numbers.first_number.Given as goal

abbrev pub invariant-loop-place : goal.invariant-loop-place
invariant-loop-place g l = spec.first_number l.numbers (drop l.place-index l.places) ≡ spec.first_number l.numbers l.places
