use Rattle.std.proofs.Common.{◌≡◌, ◌≤◌, ◌++◌, drop}
use Rattle.set_representations.specs.Numbers.{numbers_of}
use Rattle.redefine_names.specs.Numbers.{of_kind, kind_numbers}
use Rattle.redefine_names.proofs.numbers.kind_numbers.Given as goal

abbrev pub invariant-loop-rep : goal.invariant-loop-rep
invariant-loop-rep l = record {
  few : l.count ≤ l.rep-index;
  numbers : l.numbers ++ numbers_of (of_kind l.kind) l.count (drop l.rep-index l.reps) ≡ kind_numbers l.kind l.reps;
}
