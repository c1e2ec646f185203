-- The simple types that a type is, or has as a member, or as a member of one.
use Rattle.std.specs.Prelude.{◌≡◌, ℕ, ◌↔◌, ◌⊎◌, List, [], Bool, true, false, Some, All, Contains, length, slice_get, slice_set, slice_index_or, if◌then◌else◌}
use Rattle.xs_codes.specs.declared.builtin.Builtin.{Builtin as Built}
use Rattle.xs_components.specs.Tables.{Tables}
use Rattle.xs_components.specs.declared.common.TypeId.{TypeId}
use Rattle.xs_components.specs.declared.common.TypeId.TheVariants.{AnyType, Builtin, Simple, Complex}
use Rattle.xs_components.specs.declared.simple.SimpleType.{SimpleType}
use Rattle.component_references.specs.Heights.{IsType}
use Rattle.component_references.specs.Ranked.{named_types}
use Rattle.type_derivation.specs.Derives.{members_of, is_simple}

-- a type is within itself, and within a union where it is within a member
pub data IsWithin (t : Tables) : TypeId → TypeId → Type 0 where
  itself : (one : TypeId) → IsWithin t one one
  inside : (base member one : TypeId) → Contains (members_of t base) member → IsWithin t member one → IsWithin t base one

-- what a simple type is made of is simple (Structures 3.14.2)
pub record AreSimple (t : Tables) : Type 0 where
  pub named : (n : ℕ) → (part : SimpleType) → slice_get t.simples.parts n ≡ Some part → All (λ x. is_simple x ≡ true) (named_types part.form)

-- some simple types of which it is known that they are within a base: by their numbers, and built-in ones
pub record Marks : Type 0 where
  pub base : TypeId
  pub simples : List Bool
  pub builtins : List Built

-- a type is among them
abbrev pub IsMarked : Marks → TypeId → Type 0
IsMarked marks AnyType = ⊥
IsMarked marks (Builtin b) = Contains marks.builtins b
IsMarked marks (Simple id) = slice_index_or marks.simples id false ≡ true
IsMarked marks (Complex id) = ⊥

-- those simple types are marked that are within the base
pub record AreWithin (t : Tables) (marks : Marks) : Type 0 where
  pub exact : (x : TypeId) → IsType t x → is_simple x ≡ true → IsMarked marks x ↔ IsWithin t marks.base x

-- What serves the proofs.

-- nothing is marked yet
pub record IsNothing (count : ℕ) (base : TypeId) (marks : Marks) : Type 0 where
  pub of : marks.base ≡ base
  pub len : length marks.simples ≡ count
  pub none : (x : TypeId) → IsMarked marks x → ⊥

-- a built-in type was put to others
abbrev pub IsPut : List Built → Built → List Built → Type 0
IsPut old one new = (b : Built) → Contains new b ↔ (Contains old b ⊎ (b ≡ one))

-- a type was put to them
abbrev pub simples_with : List Bool → TypeId → List Bool
simples_with simples AnyType = simples
simples_with simples (Builtin b) = simples
simples_with simples (Simple id) = slice_set simples id true
simples_with simples (Complex id) = simples

abbrev pub BuiltinsWith : List Built → TypeId → List Built → Type 0
BuiltinsWith old AnyType new = new ≡ old
BuiltinsWith old (Builtin b) new = IsPut old b new
BuiltinsWith old (Simple id) new = new ≡ old
BuiltinsWith old (Complex id) new = new ≡ old

-- the members of a simple type that was not there
abbrev pub fresh_members : Tables → List Bool → TypeId → List TypeId
fresh_members t simples AnyType = []
fresh_members t simples (Builtin b) = []
fresh_members t simples (Simple id) = if slice_index_or simples id false then [] else members_of t (Simple id)
fresh_members t simples (Complex id) = []
