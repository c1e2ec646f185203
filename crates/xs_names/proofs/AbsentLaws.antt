-- The absent namespace has its number in every table.
use Rattle.std.proofs.Common.{◌≡◌, ℕ, List, [], Some, bytes_eq, sym, ap}
use Rattle.std.proofs.lemmas.Slice.Eq.{bytes_eq-Decides}
use Rattle.xs_names.specs.Names.{NameTable, IsSound, space_number, with_space}
use Rattle.xs_names.specs.Numbering.{number_of}
use Rattle.xs_names.proofs.NumberingLaws.{with_item-old}

module _ (t : NameTable) (sound : IsSound t) where
  pub absent-number : space_number t [] ≡ Some 0
  absent-number = ap (λ (spaces : List (List ℕ)). number_of bytes_eq spaces []) sound.begins.1

  pub absent-there : with_space t [] ≡ t
  absent-there = ap (λ (spaces : List (List ℕ)). record t { spaces = spaces }) (with_item-old bytes_eq bytes_eq-Decides t.spaces [] 0 absent-number)

-- a name without characters is that of the absent namespace
pub empty-number : (t : NameTable) (name : List ℕ) → name ≡ [] → IsSound t → space_number t name ≡ Some 0
empty-number t name e sound = rw e (absent-number t sound)

pub empty-there : (t : NameTable) (name : List ℕ) → name ≡ [] → IsSound t → t ≡ with_space t name
empty-there t name e sound = rw e (sym (absent-there t sound))
