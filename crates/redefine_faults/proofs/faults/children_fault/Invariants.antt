use Rattle.std.proofs.Common.{map, take}
use Rattle.xs_codes.specs.Least.{IsLeast}
use Rattle.redefine_originals.specs.inside.Entries.{child_entry}
use Rattle.redefine_faults.specs.inside.Broken.{IsChildFault, IsOneOf}
use Rattle.redefine_faults.proofs.faults.children_fault.Given as goal

abbrev pub invariant-loop-child : goal.invariant-loop-child
invariant-loop-child l = IsLeast (IsOneOf (IsChildFault l.originals.sources.available.now l.document) (take l.child-index (map child_entry l.children))) l.first
