-- The names of originals: those versions of components that a redefining one goes back to. Such a name is in the namespace of the
-- component; its local part is the component's, a space, and the place of the version among the representations. No document can write
-- it, since no NCName has a space (Namespaces in XML 1.0, production 4). What stands behind a space is printed nowhere.
use Rattle.std.specs.Prelude.{ℕ, List, [], ◌∷◌, ◌++◌, Option, None, Some, codes, decimal, slice_index_or}
use Rattle.xs_names.specs.Names.{NameTable, name_number, with_name, space_of, local_of}
use Rattle.representations.specs.declared.parts.Representation.{Representation}
use Rattle.redefine_names.specs.declared.declared.Declared.{Declared}
use Rattle.redefine_names.specs.Components.{declared_at}

abbrev pub version_local : List ℕ → ℕ → List ℕ
version_local local place = local ++ codes " " ++ decimal place

-- the table with the name of the version at a place, where it declares something
abbrev pub with_name_of : NameTable → ℕ → Option Declared → NameTable
with_name_of t place None = t
with_name_of t place (Some declared) = with_name t (space_of t declared.name) (version_local (local_of t declared.name) place)

-- the number of this name
abbrev pub number_of : NameTable → ℕ → Option Declared → Option ℕ
number_of t place None = None
number_of t place (Some declared) = name_number t (space_of t declared.name) (version_local (local_of t declared.name) place)

-- The original of each representation comes by its place, in a list by places; most have none.
abbrev pub original_at : List (Option ℕ) → ℕ → Option ℕ
original_at originals place = slice_index_or originals place None

-- the table with the name of an original
abbrev pub with_version : NameTable → List Representation → Option ℕ → NameTable
with_version t reps None = t
with_version t reps (Some original) = with_name_of t original (declared_at reps original)

-- the table with the names of all originals, in the order of the versions that go back to them
abbrev pub with_versions : NameTable → List Representation → List (Option ℕ) → NameTable
with_versions t reps [] = t
with_versions t reps (original ∷ originals) = with_versions (with_version t reps original) reps originals

-- the number of the name of the version at a place
abbrev pub version_at : NameTable → List Representation → ℕ → Option ℕ
version_at t reps place = number_of t place (declared_at reps place)
