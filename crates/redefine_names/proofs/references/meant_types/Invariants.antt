use Rattle.std.proofs.Common.{◌≡◌, map, take}
use Rattle.redefine_names.specs.Redirections.{meant_type}
use Rattle.redefine_names.proofs.references.meant_types.Given as goal

abbrev pub invariant-loop-member : goal.invariant-loop-member
invariant-loop-member l = l.made ≡ map (meant_type l.by) (take l.member-index l.members)
