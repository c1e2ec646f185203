use Rattle.std.proofs.Common.{◌≡◌, ◌++◌, string_bytes}
use Rattle.tree_rows.specs.Forest.{count}
use Rattle.assess_records.specs.Numbered.{characters}
use Rattle.elem_governing.proofs.children.text_of.Given as goal

abbrev pub invariant-left : goal.invariant-left
invariant-left l = string_bytes l.chars ++ characters l.left ≡ characters l.children

abbrev pub decreases-left : goal.decreases-left
decreases-left l = count l.left
