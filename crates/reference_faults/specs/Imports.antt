-- References to other namespaces.
use Rattle.std.specs.Prelude.{◌≡◌, ℕ, ◌<◌, Bool, true, ◌||◌, ◌==◌, nat_lt, List, [], ◌∷◌, Option, None, Some, length, slice_index_or, bytes_eq, if◌then◌else◌, refl}
use Rattle.std.specs.List.{list_any, list_all}
use Rattle.schema_values.specs.GrammarNames.{schema_namespace}
use Rattle.xs_names.specs.Names.{NameTable, space_of}
use Rattle.representations.specs.declared.origins.Origin.{Origin}
use Rattle.reference_faults.specs.declared.reference.Reference.{Reference}
use Rattle.reference_faults.specs.References.{name_of}

-- the document that the representation at the place comes from
abbrev pub origin_at : List Origin → ℕ → Option Origin
origin_at [] place = None
origin_at (origin ∷ origins) place = if nat_lt place origin.end then Some origin else origin_at origins place

-- the name of a namespace, empty for the absent one
abbrev pub space_name : NameTable → ℕ → List ℕ
space_name t space = slice_index_or t.spaces space []

-- the namespace is the target, or the document imports it, or it is that of schema documents
abbrev pub may_refer : NameTable → Origin → ℕ → Bool
may_refer t origin space =
    space == origin.target || (list_any (λ n. n == space) origin.imports || bytes_eq (space_name t space) schema_namespace)

abbrev pub is_imported_name : NameTable → Origin → Option ℕ → Bool
is_imported_name t origin None = true
is_imported_name t origin (Some name) = may_refer t origin (space_of t name)

-- Structures 3.15.3: the document may refer to the namespace of the name; a built-in type is always there
abbrev pub is_imported : NameTable → Origin → Reference → Bool
is_imported t origin reference = is_imported_name t origin (name_of reference)

abbrev pub are_imported : NameTable → Option Origin → List Reference → Bool
are_imported t None references = true
are_imported t (Some origin) references = list_all (is_imported t origin) references

-- what is asked of the names in a representation: they are in the table
abbrev pub IsInTable : NameTable → ℕ → Type 0
IsInTable t name = name < length t.names

-- for example: of two documents the second, which begins with place 2
pub example-origin : (first second : List ℕ) → origin_at (record { target = 3; imports = first; end = 2 } ∷ record { target = 4; imports = second; end = 5 } ∷ []) 2 ≡ Some (record { target = 4; imports = second; end = 5 })
example-origin first second = refl
