-- What serves the proofs: the steps by which blocked methods and groups are found.
use Rattle.std.specs.Prelude.{◌≡◌, ◌≢◌, ◌↔◌, ◌⊎◌, ℕ, ◌<◌, Bool, true, false, List, [], ◌∷◌, ◌++◌, Some, All, Contains, map, length, slice_index, slice_index_or}
use Rattle.std.specs.List.Sorted.{IsStrictlySortedBy}
use Rattle.xs_components.specs.Tables.{Tables}
use Rattle.xs_components.specs.declared.common.Methods.{Methods}
use Rattle.xs_components.specs.declared.common.TypeId.{TypeId}
use Rattle.component_references.specs.Heights.{IsLower, type_height}
use Rattle.xs_components.specs.Heads.{names_of}
use Rattle.element_declarations.specs.Groups.{IsProhibitedBetween, complex_base, IsMember, MayStand, is_named, by_place, name_of}

-- these are the methods that types between two prohibit
pub record AreProhibited (t : Tables) (base sub : TypeId) (methods : Methods) : Type 0 where
  pub extension : (methods.extension ≡ true) ↔ IsProhibitedBetween t base sub (λ m. m.extension)
  pub restriction : (methods.restriction ≡ true) ↔ IsProhibitedBetween t base sub (λ m. m.restriction)

-- the first type between two
pub record IsNext (t : Tables) (base sub next_type : TypeId) : Type 0 where
  pub below : sub ≢ base
  pub leads : complex_base t sub ≡ Some next_type
  pub other : next_type ≢ base
  pub lower : IsLower t (type_height t sub) next_type

-- all elements by their places, each once
pub record IsInOrder (t : Tables) (order : List ℕ) : Type 0 where
  pub there : All (λ element. element < length t.elements.parts) order
  pub each : (element : ℕ) → element < length t.elements.parts → Contains order element
  pub ordered : IsStrictlySortedBy (by_place t) order

-- the numbers from 0 on
abbrev pub AreCounted : List ℕ → Type 0
AreCounted numbers = (n : ℕ) → n < length numbers → slice_index numbers n ≡ n

-- the marks say which elements content models name
pub record AreMarked (t : Tables) (marks : List Bool) : Type 0 where
  pub each : length marks ≡ length t.elements.parts
  pub are : (n : ℕ) → n < length marks → slice_index_or marks n false ≡ is_named t n

-- an element is a member of the group of a head that content models name
pub record IsListed (t : Tables) (head element : ℕ) : Type 0 where
  pub named : is_named t head ≡ true
  pub member : IsMember t head element

-- the names of those members of a group that are among these elements, behind that of its head
pub record IsGroupSoFar (t : Tables) (head : ℕ) (done names : List ℕ) : Type 0 where
  pub members : List ℕ
  pub exact : (element : ℕ) → Contains members element ↔ (Contains done element × IsListed t head element)
  pub ordered : IsStrictlySortedBy (by_place t) members
  pub all_names : names ≡ name_of t head ∷ map (name_of t) members

-- a name is put to a list if something holds
abbrev pub IsPutIf : Type 0 → ℕ → List ℕ → List ℕ → Type 0
IsPutIf Holds name old new = (Holds × (new ≡ old ++ name ∷ [])) ⊎ ((Holds → ⊥) × (new ≡ old))

-- an element is put to the group of one head, if content models name that and the element may stand for it
pub record IsOffered (t : Tables) (element head : ℕ) (old new : List (List ℕ)) : Type 0 where
  pub count : length new ≡ length old
  pub own : IsPutIf ((is_named t head ≡ true) × MayStand t head element) (name_of t element) (names_of old head) (names_of new head)
  pub others : (h : ℕ) → h ≢ head → names_of new h ≡ names_of old h

-- an element is put to the groups of which it is a member, of those that content models name
pub record IsJoined (t : Tables) (element : ℕ) (old new : List (List ℕ)) : Type 0 where
  pub count : length new ≡ length old
  pub each : (h : ℕ) → h < length old → IsPutIf (IsListed t h element) (name_of t element) (names_of old h) (names_of new h)
