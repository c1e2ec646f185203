use Rattle.std.proofs.Common.{◌-◌, length}
use Rattle.doc_changes.proofs.Placing.{GivesMore}
use Rattle.doc_changes.proofs.numbers.give_numbers.Given as goal

abbrev pub invariant-numbers : goal.invariant-numbers
invariant-numbers l = GivesMore l.initial.links l.links l.until

abbrev pub decreases-numbers : goal.decreases-numbers
decreases-numbers l = l.until - length l.links
