use Rattle.std.proofs.Common.{◌≡◌, find, drop}
use Rattle.representations.specs.Members.{is_type_at}
use Rattle.representations.proofs.members.first_type.Given as goal

abbrev pub invariant-loop-member : goal.invariant-loop-member
invariant-loop-member l = find (is_type_at l.reps) (drop l.member-index l.members) ≡ find (is_type_at l.reps) l.members
