-- The codes of a document's IDs, put to its root.
use Rattle.std.specs.Prelude.{List, [], ◌∷◌, map}
use Rattle.std.specs.List.{flat_map}
use Rattle.xs_codes.specs.declared.fault.Found.{Found}
use Rattle.identity_tables.specs.Ids.{id_codes}
use Rattle.assessment.specs.Bearings.{Bearing, borne_of}
use Rattle.assessment.specs.Joined.{marked_record}
use Rattle.tree_assess.specs.Entries.{entry_of}
use Rattle.tree_assess.specs.declared.entry.ElementEntry.{ElementEntry}

-- the entry that is kept of an element, with the element that bears the IDs of its text
abbrev pub bearing_of : ElementEntry → Bearing
bearing_of e = record { bearer = e.bearer; own = entry_of e }

-- the codes of the IDs in the texts of elements
abbrev pub codes_in : List ElementEntry → List Found
codes_in es = id_codes (flat_map borne_of (map bearing_of es))

-- codes behind those of the first element
abbrev pub with_marks : List Found → List ElementEntry → List ElementEntry
with_marks codes [] = []
with_marks codes (own ∷ more) = record own { element = marked_record codes own.element } ∷ more
