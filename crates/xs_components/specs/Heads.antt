-- Substitution groups (Structures 3.3.6): the names of the members of each group, by the number of the element that heads it.
use Rattle.std.specs.Prelude.{ℕ, List, [], slice_get, unwrap_or}

-- the names of the members of the group that this element heads; none where the element is not known
abbrev pub names_of : List (List ℕ) → ℕ → List ℕ
names_of groups head = unwrap_or (slice_get groups head) []
