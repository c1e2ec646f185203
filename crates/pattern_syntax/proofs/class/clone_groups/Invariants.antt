use Rattle.std.proofs.Common.{◌≡◌, map, take}
use Rattle.pattern_syntax.specs.Classes.{group_of}
use Rattle.pattern_syntax.proofs.class.clone_groups.Given as goal

-- the copies so far
abbrev pub invariant-loop-group : goal.invariant-loop-group
invariant-loop-group l = map group_of l.copy.items ≡ map group_of (take l.group-index l.groups)
