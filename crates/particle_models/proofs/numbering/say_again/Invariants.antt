use Rattle.std.proofs.Common.{◌≡◌, ◌++◌, drop}
use Rattle.xs_positions.specs.Tree.{times}
use Rattle.particle_models.proofs.numbering.say_again.Given as goal

abbrev pub invariant-loop : goal.invariant-loop
invariant-loop l = l.numbers.items ≡ l.initial.numbers.items ++ times l.counter (drop l.fn.from l.initial.numbers.items)
