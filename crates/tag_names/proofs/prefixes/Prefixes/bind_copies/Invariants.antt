use Rattle.std.proofs.Common.{◌≡◌, ◌++◌, List, length}
use Rattle.tree_rows.specs.declared.row.Binding.{Binding}
use Rattle.tag_names.proofs.prefixes.Prefixes.bind_copies.Given as goal

abbrev pub invariant-left : goal.invariant-left
invariant-left l = (l.left ++ l.self ≡ l.bindings ++ l.fn.self) × (more : List Binding) × (l.self ≡ more ++ l.fn.self)

abbrev pub decreases-left : goal.decreases-left
decreases-left l = length l.left
