-- The IDs of an assessed document: Structures 3.15.5.
use Rattle.std.specs.Prelude.{ℕ, List, [], ◌∷◌, ◌++◌}
use Rattle.std.specs.List.{flat_map}
use Rattle.identity_tables.specs.Ids.{BorneAtom, borne_in, borne_in_all}
use Rattle.assessment.specs.Assessment.{Entry, Assessed, nothing, entry}

-- what is found out about an element, and the element that bears the IDs in its text
pub record Bearing : Type 0 where
  pub bearer : ℕ
  pub own : Entry

-- of child elements the parent bears them
abbrev pub bearings_below : ℕ → Assessed → List Bearing
bearings_below parent nothing = []
bearings_below parent (entry own below next) =
    record { bearer = parent; own = own } ∷ (bearings_below own.number below ++ bearings_below parent next)

-- of the root the root itself
abbrev pub bearings : Assessed → List Bearing
bearings nothing = []
bearings (entry own below next) = record { bearer = own.number; own = own } ∷ (bearings_below own.number below ++ bearings next)

-- the atoms of an element's text and of its attributes, whose IDs the element bears
abbrev pub borne_of : Bearing → List BorneAtom
borne_of b = borne_in b.bearer b.own.value ++ borne_in_all b.own.number b.own.attr_values

-- the atoms of a document's valid texts, in document order; an element that is skipped or nil has no value
abbrev pub borne_values : Assessed → List BorneAtom
borne_values found = flat_map borne_of (bearings found)
