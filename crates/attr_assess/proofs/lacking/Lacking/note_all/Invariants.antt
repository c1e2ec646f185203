use Rattle.std.proofs.Common.{List, length}
use Rattle.attr_uses.specs.declared.entry.UseAt.{UseAt}
use Rattle.attr_uses.specs.Tables.{AreNeeded}
use Rattle.attr_assess.specs.inside.Uses.{AreLackingUpTo}
use Rattle.attr_assess.proofs.lacking.Lacking.note_all.Given as goal

abbrev pub invariant-uses : goal.invariant-uses
invariant-uses l = (uses : List UseAt) → AreNeeded l.schema.parts.now uses 0 l.needed → AreLackingUpTo l.schema.names.now l.schema.parts.now uses l.given l.left l.self

abbrev pub decreases-uses : goal.decreases-uses
decreases-uses l = length l.left
