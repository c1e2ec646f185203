-- The order of the attributes that are added.
use Rattle.std.specs.Prelude.{ℕ, Bool, List, [], slice_index_or}
use Rattle.std.specs.Cmp.Lexicographic.{slice_cmp}
use Rattle.std.specs.Ordering.{nat_cmp, ordering_then, is_lt}
use Rattle.std.specs.declared.cmp.Ordering.{Ordering}
use Rattle.xs_names.specs.Names.{NameTable, space_of, local_of}

-- the name of the namespace of a name, empty for the absent one
abbrev pub space_text : NameTable → ℕ → List ℕ
space_text names name = slice_index_or names.spaces (space_of names name) []

-- by the name of the namespace, the absent one first, and then by the local part, each byte by byte
abbrev pub name_order : NameTable → ℕ → ℕ → Ordering
name_order names a b =
    ordering_then (slice_cmp nat_cmp (space_text names a) (space_text names b)) (slice_cmp nat_cmp (local_of names a) (local_of names b))

abbrev pub is_before : NameTable → ℕ → ℕ → Bool
is_before names a b = is_lt (name_order names a b)
