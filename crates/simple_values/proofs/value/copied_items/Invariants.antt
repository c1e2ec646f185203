use Rattle.std.proofs.Common.{◌≡◌, take}
use Rattle.simple_values.specs.Same.{atoms_of}
use Rattle.simple_values.proofs.value.copied_items.Given as goal

abbrev pub invariant-loop-item : goal.invariant-loop-item
invariant-loop-item l = l.copies ≡ atoms_of (take l.item-index l.items)
