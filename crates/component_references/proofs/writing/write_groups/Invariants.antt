use Rattle.std.proofs.Common.{◌≡◌, ◌++◌, take, drop}
use Rattle.component_references.proofs.writing.write_groups.Given as goal

abbrev pub invariant-loop-n : goal.invariant-loop-n
invariant-loop-n l = l.parts ≡ record l.initial.parts { groups = record l.initial.parts.groups { ranks = take l.n l.ranks ++ drop l.n l.initial.parts.groups.ranks } }
