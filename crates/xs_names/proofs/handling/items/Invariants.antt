use Rattle.std.proofs.Common.{◌≡◌, map, filter}
use Rattle.xs_names.specs.WhiteSpace.{is_item}
use Rattle.xs_names.proofs.handling.items.Given as goal

abbrev pub invariant-loop-item : goal.invariant-loop-item
invariant-loop-item l = l.found ≡ filter is_item (map (λ piece. piece.now) l.yielded)
