-- Names that stand twice.
use Rattle.std.specs.Prelude.{ℕ, Bool, false, ◌||◌, nat_lt, List, Option, None, Some, slice_index_or}
use Rattle.component_tables.specs.Symbols.{first_place}
use Rattle.representations.specs.declared.source.SymbolSpaces.{SymbolSpaces}

abbrev pub is_before : Option ℕ → ℕ → Bool
is_before None place = false
is_before (Some first) place = nat_lt first place

abbrev pub is_earlier : List (Option ℕ) → Option ℕ → ℕ → Bool
is_earlier names None place = false
is_earlier names (Some name) place = is_before (first_place names name) place

-- a place before this one has its name too
abbrev pub is_later_one : List (Option ℕ) → ℕ → Bool
is_later_one names place = is_earlier names (slice_index_or names place None) place

-- sch-props-correct.2 (Structures 3.15.6): an earlier component of the same symbol space has the name; simple and complex types
-- are of one space, and so are identity constraints
abbrev pub is_double : SymbolSpaces → ℕ → Bool
is_double spaces place =
    is_later_one spaces.types place
    || (is_later_one spaces.elements place
    || (is_later_one spaces.attributes place
    || (is_later_one spaces.groups place
    || (is_later_one spaces.attr_groups place || is_later_one spaces.constraints place))))
