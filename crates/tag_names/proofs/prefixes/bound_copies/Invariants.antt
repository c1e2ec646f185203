use Rattle.std.proofs.Common.{◌≡◌, take, reverse}
use Rattle.tag_names.specs.Tables.{bindings_of}
use Rattle.tag_names.proofs.prefixes.bound_copies.Given as goal

abbrev pub invariant-loop-entry : goal.invariant-loop-entry
invariant-loop-entry l = l.copy ≡ bindings_of (reverse (take l.entry-index l.entries))
