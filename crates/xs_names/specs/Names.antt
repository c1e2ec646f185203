-- Names by number. A name is a namespace with a local part: an expanded name (Namespaces in XML 1.0, 2.1).
use Rattle.std.specs.Prelude.{◌≡◌, ℕ, ◌<◌, ◌≤◌, Bool, ◌&&◌, ◌==◌, List, [], ◌∷◌, Option, Some, length, slice_get, slice_index_or, bytes_eq, codes}
use Rattle.xs_names.specs.Numbering.{number_of, with_item, HasNoRepeats, Begins}

-- the namespaces and the names by number; a name is the number of its namespace with its local part
pub record NameTable : Type 0 where
  pub spaces : List (List ℕ)
  pub names : List (ℕ × List ℕ)

-- the namespace name that the prefix xml is bound to (Namespaces in XML 1.0, 3)
abbrev pub xml_name : List ℕ
xml_name = codes "http://www.w3.org/XML/1998/namespace"

-- the namespace name that the prefix xmlns is bound to (Namespaces in XML 1.0, 3)
abbrev pub xmlns_name : List ℕ
xmlns_name = codes "http://www.w3.org/2000/xmlns/"

-- the numbers of the absent namespace and of that of the prefix xml, the same in every table
abbrev pub absent_space : ℕ
absent_space = 0

abbrev pub xml_space : ℕ
xml_space = 1

-- the namespaces of every table: the absent one, whose name is empty (Namespaces in XML 1.0, 6.2), and that of the prefix xml
abbrev pub first_spaces : List (List ℕ)
first_spaces = [] ∷ xml_name ∷ []

-- the table without names
abbrev pub no_names : NameTable
no_names = record { spaces = first_spaces; names = [] }

abbrev pub same_name : ℕ × List ℕ → ℕ × List ℕ → Bool
same_name a b = a.0 == b.0 && bytes_eq a.1 b.1

-- the number of the namespace of this name
abbrev pub space_number : NameTable → List ℕ → Option ℕ
space_number t name = number_of bytes_eq t.spaces name

-- the number of the name with this namespace and local part
abbrev pub name_number : NameTable → ℕ → List ℕ → Option ℕ
name_number t space local = number_of same_name t.names (space, local)

-- the table with a namespace in it, and with a name in it
abbrev pub with_space : NameTable → List ℕ → NameTable
with_space t name = record t { spaces = with_item bytes_eq t.spaces name }

abbrev pub with_name : NameTable → ℕ → List ℕ → NameTable
with_name t space local = record t { names = with_item same_name t.names (space, local) }

-- the namespace and the local part of a name
abbrev pub space_of : NameTable → ℕ → ℕ
space_of t name = (slice_index_or t.names name (0, [])).0

abbrev pub local_of : NameTable → ℕ → List ℕ
local_of t name = (slice_index_or t.names name (0, [])).1

-- what is true of the table of every `Names`
pub record IsSound (t : NameTable) : Type 0 where
  pub begins : Begins first_spaces t.spaces
  pub spaces_once : HasNoRepeats t.spaces
  pub names_once : HasNoRepeats t.names
  pub within : (n space : ℕ) (local : List ℕ) → slice_get t.names n ≡ Some (space, local) → space < length t.spaces

-- the new table has the old one's namespaces and names, under their numbers; the last two facts follow, and serve arithmetic
pub record Grown (old new : NameTable) : Type 0 where
  pub spaces : Begins old.spaces new.spaces
  pub names : Begins old.names new.names
  pub more_spaces : length old.spaces ≤ length new.spaces
  pub more_names : length old.names ≤ length new.names

-- What a `Names` keeps, and what it shows by it.

-- a name whose local part is known by its number
abbrev pub name_in : List (List ℕ) → ℕ × ℕ → ℕ × List ℕ
name_in locals pair = (pair.0, slice_index_or locals pair.1 [])

-- what is true of the texts and pairs that a `Names` keeps
pub record IsKept (spaces locals : List (List ℕ)) (pairs : List (ℕ × ℕ)) : Type 0 where
  pub begins : Begins first_spaces spaces
  pub spaces_once : HasNoRepeats spaces
  pub locals_once : HasNoRepeats locals
  pub pairs_once : HasNoRepeats pairs
  pub within : (n : ℕ) (pair : ℕ × ℕ) → slice_get pairs n ≡ Some pair → (pair.0 < length spaces) × (pair.1 < length locals)
