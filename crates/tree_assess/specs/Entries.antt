-- The entries of a document's elements.
use Rattle.std.specs.Prelude.{◌≡◌, ℕ, List, [], ◌∷◌, ◌++◌, length, map}
use Rattle.tree_rows.specs.Forest.{Forest}
use Rattle.assessment.specs.Attribution.{SchemaSet}
use Rattle.assessment.specs.Assessment.{Entry, Assessed, nothing, entry, entries, IsAssessment}
use Rattle.assessment.specs.Plain.{plain_beside}
use Rattle.tree_assess.specs.declared.entry.ElementEntry.{ElementEntry}

-- what is found out about an element, with the element that bears the IDs in its text, and with how many of the next are below it
pub record Placed : Type 0 where
  pub bearer : ℕ
  pub below : ℕ
  pub own : Entry

-- of child elements the parent bears them
abbrev pub placed_below : ℕ → Assessed → List Placed
placed_below parent nothing = []
placed_below parent (entry own below next) =
    record { bearer = parent; below = length (entries below); own = own } ∷ (placed_below own.number below ++ placed_below parent next)

-- of the root the root itself
abbrev pub all_placed : Assessed → List Placed
all_placed nothing = []
all_placed (entry own below next) =
    record { bearer = own.number; below = length (entries below); own = own } ∷ (placed_below own.number below ++ all_placed next)

-- the entry that is kept of an element
abbrev pub entry_of : ElementEntry → Entry
entry_of e = record { number = e.number; governing = e.governing; element = e.element; value = e.value; attrs = e.attrs; attr_values = e.attr_values }

abbrev pub placed_of : ElementEntry → Placed
placed_of e = record { bearer = e.bearer; below = e.below; own = entry_of e }

-- these are the entries of the assessment of a document by a schema set without the codes of identity constraints and of IDs, in
-- document order
pub record ArePlain (s : SchemaSet) (f : Forest) (es : List ElementEntry) : Type 0 where
  pub found : Assessed
  pub assessed : IsAssessment s plain_beside f found
  pub placed_are : map placed_of es ≡ all_placed found
