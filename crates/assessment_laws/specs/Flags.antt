-- What the record of an element is told of its child elements (Structures 3.3.4, 3.3.5).
use Rattle.std.specs.Prelude.{◌≡◌, ◌==◌}
use Rattle.assess_records.specs.declared.counts.ChildCounts.{ChildCounts}
use Rattle.assess_records.specs.declared.shape.ElementShape.{ElementShape}
use Rattle.elem_codes.specs.Facts.{has_children}

-- By both counts there are child elements or none, and so there are some or none that are invalid, and that were assessed in full, in
-- part and not at all.
pub record HaveSameFlags (a b : ChildCounts) : Type 0 where
  pub elements : has_children a ≡ has_children b
  pub invalid : (a.invalid == 0) ≡ (b.invalid == 0)
  pub full : (a.full == 0) ≡ (b.full == 0)
  pub partial : (a.partial == 0) ≡ (b.partial == 0)
  pub untried : (a.untried == 0) ≡ (b.untried == 0)

-- an element with these counts of child elements, which shows the same else
abbrev pub with_counts : ChildCounts → ElementShape → ElementShape
with_counts counts shape = record shape { counts = counts }
