-- One `Names` that has grown from another.
use Rattle.std.proofs.Common.{◌≡◌, ℕ, ◌<◌, ◌≤◌, List, [], Some, length, slice_get, slice_index_or, bytes_eq, ap, ◌∙◌}
use Rattle.std.proofs.lemmas.Slice.Eq.{bytes_eq-Decides}
use Rattle.xs_names.specs.Names.{NameTable, Grown, IsSound, first_spaces, same_name, space_number, name_number, space_of, local_of, with_space, with_name}
use Rattle.xs_names.specs.Numbering.{number_of, Begins}
use Rattle.std.proofs.lemmas.List.{get_or_append_left}
use Rattle.xs_names.proofs.NumberingLaws.{same_name-Decides, within-number_of, Begins-refl, Begins-trans, Begins-with_item, slice_get-Begins, length-Begins, position_from-kept}

Grown-Begins : (t u : NameTable) → Begins t.spaces u.spaces → Begins t.names u.names → Grown t u
Grown-Begins t u spaces names = record {
  spaces = spaces;
  names = names;
  more_spaces = length-Begins t.spaces u.spaces spaces;
  more_names = length-Begins t.names u.names names;
}

pub Grown-refl : (t : NameTable) → Grown t t
Grown-refl t = Grown-Begins t t (Begins-refl t.spaces) (Begins-refl t.names)

pub Grown-trans : (t u v : NameTable) → Grown t u → Grown u v → Grown t v
Grown-trans t u v f g = Grown-Begins t v (Begins-trans t.spaces u.spaces v.spaces f.spaces g.spaces) (Begins-trans t.names u.names v.names f.names g.names)

-- numbers over the old table keep their meaning
pub slice_get-spaces-Grown : (old new : NameTable) → Grown old new → (n : ℕ) (name : List ℕ) → slice_get old.spaces n ≡ Some name → slice_get new.spaces n ≡ Some name
slice_get-spaces-Grown old new g = slice_get-Begins old.spaces new.spaces g.spaces

pub slice_get-names-Grown : (old new : NameTable) → Grown old new → (n : ℕ) (name : ℕ × List ℕ) → slice_get old.names n ≡ Some name → slice_get new.names n ≡ Some name
slice_get-names-Grown old new g = slice_get-Begins old.names new.names g.names

pub space_number-Grown : (old new : NameTable) → Grown old new → (name : List ℕ) (n : ℕ) → space_number old name ≡ Some n → space_number new name ≡ Some n
space_number-Grown old new g name n e = ap (λ spaces. number_of bytes_eq spaces name) g.spaces.1 ∙ position_from-kept (bytes_eq name) 0 n old.spaces g.spaces.0 e

pub name_number-Grown : (old new : NameTable) → Grown old new → (space : ℕ) (local : List ℕ) (n : ℕ) → name_number old space local ≡ Some n → name_number new space local ≡ Some n
name_number-Grown old new g space local n e = ap (λ names. number_of same_name names (space, local)) g.names.1 ∙ position_from-kept (same_name (space, local)) 0 n old.names g.names.0 e

pub space_of-Grown : (old new : NameTable) → Grown old new → (n : ℕ) → n < length old.names → space_of new n ≡ space_of old n
space_of-Grown old new g n l = ap (λ (names : List (ℕ × List ℕ)). (slice_index_or {A = ℕ × List ℕ} names n (0, [])).0) g.names.1 ∙ ap (λ (name : ℕ × List ℕ). name.0) (get_or_append_left old.names g.names.0 (0, []) n l)

pub local_of-Grown : (old new : NameTable) → Grown old new → (n : ℕ) → n < length old.names → local_of new n ≡ local_of old n
local_of-Grown old new g n l = ap (λ (names : List (ℕ × List ℕ)). (slice_index_or {A = ℕ × List ℕ} names n (0, [])).1) g.names.1 ∙ ap (λ (name : ℕ × List ℕ). name.1) (get_or_append_left old.names g.names.0 (0, []) n l)

-- a table grows by a namespace, and by a name
pub Grown-with_space : (t : NameTable) (name : List ℕ) → Grown t (with_space t name)
Grown-with_space t name = Grown-Begins t (with_space t name) (Begins-with_item bytes_eq bytes_eq-Decides t.spaces name) (Begins-refl t.names)

pub Grown-with_name : (t : NameTable) (space : ℕ) (local : List ℕ) → Grown t (with_name t space local)
Grown-with_name t space local = Grown-Begins t (with_name t space local) (Begins-refl t.spaces) (Begins-with_item same_name same_name-Decides t.names (space, local))

-- a number that a search gave is below the length
pub within-space_number : (t : NameTable) (name : List ℕ) (n : ℕ) → space_number t name ≡ Some n → n < length t.spaces
within-space_number t name n e = within-number_of bytes_eq bytes_eq-Decides t.spaces name n e

pub within-name_number : (t : NameTable) (space : ℕ) (local : List ℕ) (n : ℕ) → name_number t space local ≡ Some n → n < length t.names
within-name_number t space local n e = within-number_of same_name same_name-Decides t.names (space, local) n e

-- the namespaces of every table
pub two_spaces : (t : NameTable) → IsSound t → 2 ≤ length t.spaces
two_spaces t sound = length-Begins first_spaces t.spaces sound.begins
