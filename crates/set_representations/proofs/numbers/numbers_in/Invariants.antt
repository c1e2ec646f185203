use Rattle.std.proofs.Common.{◌≡◌, ◌++◌, drop}
use Rattle.set_representations.specs.Numbers as spec
use Rattle.set_representations.proofs.numbers.numbers_in.Given as goal

abbrev pub invariant-loop-place : goal.invariant-loop-place
invariant-loop-place g l = l.list ++ spec.numbers_in l.numbers (drop l.place-index l.places) ≡ spec.numbers_in l.numbers l.places
