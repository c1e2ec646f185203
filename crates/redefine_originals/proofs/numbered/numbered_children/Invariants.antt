use Rattle.std.proofs.Common.{◌≡◌, ◌==◌, ℕ, map, take}
use Rattle.std.specs.List.{find}
use Rattle.redefine_originals.specs.inside.Entries.{child_entry}
use Rattle.redefine_originals.specs.inside.Numbered.{child_found}
use Rattle.redefine_originals.proofs.numbered.numbered_children.Given as goal

abbrev pub invariant-loop-child : goal.invariant-loop-child
invariant-loop-child l = (item : ℕ) → child_found l.numbered item ≡ find (λ c. c.shape.item == item) (map child_entry (take l.child-index l.children))
