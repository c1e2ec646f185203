use Rattle.std.proofs.Common.{◌≡◌, drop}
use Rattle.facet_rules.specs.First.{first_from}
use Rattle.simple_types.specs.TypeRules.{no_fault, members_rules}
use Rattle.simple_types.proofs.rules.note_members.Given as goal

abbrev pub invariant-loop-member : goal.invariant-loop-member
invariant-loop-member l = first_from l.best (members_rules l.parts l.at (drop l.member-index l.members)) ≡ first_from no_fault (members_rules l.parts l.at l.members)
