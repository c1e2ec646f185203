use Rattle.std.proofs.Common.{◌-◌, length}
use Rattle.xs_positions.specs.Sets.{IsSeen}
use Rattle.xs_positions.proofs.sets.Linked.seek.Given as goal

abbrev pub invariant-seeking : goal.invariant-seeking
invariant-seeking l = IsSeen l.loops l.numbers l.self

abbrev pub decreases-seeking : goal.decreases-seeking
decreases-seeking l = length l.loops - l.self.place
