use Rattle.std.proofs.Common.{sym, ◌∙◌}
use Rattle.forest_keys.proofs.Stepping.{none_invalid, first_invalid, later_invalid, fewer}
use Rattle.forest_keys.proofs.joining.has_invalid.Goals as goal

pub returns-then-is_invalid : goal.returns-then-is_invalid
returns-then-is_invalid c = sym (c.left.invariant ∙ first_invalid c.left.left.now c.in-Some.parts c.in-Some.ensures (sym c.is_invalid.ensures ∙ c.if-is_invalid.true))

pub left-preserved : goal.left-preserved
left-preserved c = c.left.invariant ∙ later_invalid c.left.left.now c.in-Some.parts c.in-Some.ensures (sym c.is_invalid.ensures ∙ c.if-is_invalid.false)

pub left-smaller : goal.left-smaller
left-smaller c = fewer c.left.left.now c.in-Some.parts c.in-Some.ensures

pub returns : goal.returns
returns c = sym (c.left.invariant ∙ none_invalid c.left.left.now c.in_default.ensures)
