-- The order in which the symbols of a content model are printed.
use Rattle.std.specs.Prelude.{ℕ, suc, ◌+◌, Bool, List, [], ◌∷◌, ◌++◌, length, slice_index_or, IsPermutation, IsSortedBy}
use Rattle.std.specs.Cmp.Lexicographic.{slice_cmp}
use Rattle.std.specs.Ordering.{nat_cmp, ordering_then, is_lt}
use Rattle.std.specs.declared.cmp.Ordering.{Ordering}
use Rattle.xs_names.specs.Names.{NameTable, space_of, local_of}
use Rattle.kept_next.specs.declared.symbol.SymbolName.{SymbolName}
use Rattle.kept_next.specs.declared.symbol.SymbolName.TheVariants.{Name, Namespace, Other}
use Rattle.kept_next.specs.declared.order.Symbol.{Symbol}

-- names come first, then namespaces, then all other names
abbrev pub kind_of : SymbolName → ℕ
kind_of (Name name) = 0
kind_of (Namespace space) = 1
kind_of Other = 2

module _ (names : NameTable) where
  -- the name of the namespace of a symbol; that of the absent one is empty
  abbrev pub space_name : SymbolName → List ℕ
  space_name (Name name) = slice_index_or names.spaces (space_of names name) []
  space_name (Namespace space) = slice_index_or names.spaces space []
  space_name Other = []

  abbrev pub local_name : SymbolName → List ℕ
  local_name (Name name) = local_of names name
  local_name (Namespace space) = []
  local_name Other = []

  -- by kind, then by the name of the namespace, the absent one first, and then by the local part, each byte by byte
  abbrev pub print_order : SymbolName → SymbolName → Ordering
  print_order a b =
      ordering_then (nat_cmp (kind_of a) (kind_of b))
      (ordering_then (slice_cmp nat_cmp (space_name a) (space_name b)) (slice_cmp nat_cmp (local_name a) (local_name b)))

  abbrev pub is_before : Symbol → Symbol → Bool
  is_before a b = is_lt (print_order a.name b.name)

-- symbols that are numbered from this one on
abbrev pub numbered : (ℕ → SymbolName) → ℕ → List ℕ → List Symbol
numbered named n [] = []
numbered named n (x ∷ xs) = record { number = n; name = named x } ∷ numbered named (suc n) xs

-- the symbols of a content model in the order of their numbers: those of names, those of namespaces, and the one more
abbrev pub symbols_of : List ℕ → List ℕ → List Symbol
symbols_of own spaces =
    numbered Name 0 own ++ numbered Namespace (length own) spaces ++ record { number = length own + length spaces; name = Other } ∷ []

-- these are the symbols of names and namespaces and the one more, in the order in which they are printed
pub record IsOrderOf (names : NameTable) (own spaces : List ℕ) (symbols : List Symbol) : Type 0 where
  pub all : IsPermutation (symbols_of own spaces) symbols
  pub rises : IsSortedBy (is_before names) symbols
