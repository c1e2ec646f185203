use Rattle.std.proofs.Common.{◌≡◌, ◌++◌, drop}
use Rattle.schema_shape.proofs.shaped.copies_of.Given as goal

abbrev pub invariant-loop-binding : goal.invariant-loop-binding
invariant-loop-binding l = l.copies ++ drop l.binding-index l.bindings ≡ l.bindings
