-- How many child elements of an element have each validity and each attempt at validation (Structures 3.3.5).
use Rattle.std.specs.Prelude.{ℕ, ◌+◌, suc, List, [], ◌∷◌}
use Rattle.assess_records.specs.declared.outcome.Validity.{Validity}
use Rattle.assess_records.specs.declared.outcome.Validity.TheVariants.{Valid, Invalid, NotKnown}
use Rattle.assess_records.specs.declared.outcome.Attempted.{Attempted}
use Rattle.assess_records.specs.declared.outcome.Attempted.TheVariants.{Full, Partial, Untried}
use Rattle.assess_records.specs.declared.counts.ChildCounts.{ChildCounts}
use Rattle.assess_records.specs.declared.record.ElementRecord.{ElementRecord}

-- no child elements
abbrev pub no_children : ChildCounts
no_children = record { valid = 0; invalid = 0; not_known = 0; full = 0; partial = 0; untried = 0 }

-- one more child element of this validity
abbrev pub with_validity : Validity → ChildCounts → ChildCounts
with_validity Valid counts = record counts { valid = suc counts.valid }
with_validity Invalid counts = record counts { invalid = suc counts.invalid }
with_validity NotKnown counts = record counts { not_known = suc counts.not_known }

-- one more child element that was assessed so far
abbrev pub with_attempted : Attempted → ChildCounts → ChildCounts
with_attempted Full counts = record counts { full = suc counts.full }
with_attempted Partial counts = record counts { partial = suc counts.partial }
with_attempted Untried counts = record counts { untried = suc counts.untried }

-- one more child element
abbrev pub with_child : Validity → Attempted → ChildCounts → ChildCounts
with_child validity attempted counts = with_attempted attempted (with_validity validity counts)

-- the counts of these child elements
abbrev pub counts_of : List ElementRecord → ChildCounts
counts_of [] = no_children
counts_of (child ∷ more) = with_child child.validity child.attempted (counts_of more)

-- how many child elements are counted, by their validity
abbrev pub child_count : ChildCounts → ℕ
child_count counts = counts.valid + counts.invalid + counts.not_known

-- how many child elements are counted, by the attempt at their validation
abbrev pub attempt_count : ChildCounts → ℕ
attempt_count counts = counts.full + counts.partial + counts.untried
