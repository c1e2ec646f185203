use Rattle.std.proofs.Common.{◌≡◌, drop}
use Rattle.representations.specs.Forms.{members_table}
use Rattle.representations.proofs.naming.Naming.members.Given as goal

abbrev pub invariant-loop-member : goal.invariant-loop-member
invariant-loop-member l = members_table l.self (drop l.member-index l.members) l.names ≡ members_table l.self l.members l.initial.names
