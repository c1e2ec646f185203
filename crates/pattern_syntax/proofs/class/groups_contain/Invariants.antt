use Rattle.std.proofs.Common.{◌≡◌, drop, map}
use Rattle.pattern_syntax.specs.Classes.{group_of, has}
use Rattle.pattern_syntax.proofs.ClassLaws.{turned}
use Rattle.pattern_syntax.proofs.class.groups_contain.Given as goal

abbrev pub invariant-loop-group : goal.invariant-loop-group
invariant-loop-group l = turned l.inside (has (map group_of (drop l.group-index l.groups)) l.c) ≡ has (map group_of l.groups) l.c
