use Rattle.std.proofs.Common.{◌≡◌, map, string_bytes}
use Rattle.xs_names.specs.WhiteSpace.{joined}
use Rattle.xs_names.proofs.handling.collapsed.Given as goal

abbrev pub invariant-loop-item : goal.invariant-loop-item
invariant-loop-item l = string_bytes l.joined ≡ joined (map (λ piece. piece.now) l.yielded)
