-- Which types of elements derive from which in a restriction (Structures 3.9.6, Particle Restriction OK (Elt:Elt)).
use Rattle.std.specs.Prelude.{◌≡◌, ◌↔◌, ℕ, Bool, true, false, List, [], Option, None, Some, slice_index_or}
use Rattle.xs_components.specs.Tables.{Tables}
use Rattle.xs_components.specs.declared.common.Methods.{Methods}
use Rattle.xs_components.specs.declared.common.TypeId.{TypeId}
use Rattle.xs_components.specs.declared.common.TypeId.TheVariants.{AnyType, Builtin, Simple, Complex}
use Rattle.component_references.specs.Heights.{IsType}
use Rattle.component_references.specs.Ranked.{IsRanked}
use Rattle.type_derivation.specs.Chains.{Derives}
use Rattle.type_derivation.specs.Derives.{members_of}
use Rattle.type_derivation.specs.Within.{AreSimple, AreWithin, Marks}
use Rattle.derive_models.specs.declared.derivations.Derivations.{Derivations}

-- the methods without which the types of elements derive
abbrev pub excluded : Methods
excluded = record { extension = true; restriction = false; substitution = false; by_list = true; by_union = true }

-- the answers tell which types derive from which without these
abbrev pub IsDerivation : Tables → (TypeId → TypeId → Bool) → Type 0
IsDerivation t derives = (sub base : TypeId) → IsType t sub → IsType t base → (derives sub base ≡ true) ↔ Derives t excluded sub base

-- by the numbers of simple types: what is known of one is what is within it
abbrev pub AreUnions : Tables → List (Option Marks) → Type 0
AreUnions t unions = (n : ℕ) (marks : Marks) → slice_index_or unions n None ≡ Some marks → AreWithin t marks × (marks.base ≡ Simple n)

-- a type of which nothing is known has no members
abbrev pub IsFound : Tables → List (Option Marks) → TypeId → Type 0
IsFound t unions AnyType = Unit {0}
IsFound t unions (Builtin kind) = Unit {0}
IsFound t unions (Simple id) = slice_index_or unions id None ≡ None → members_of t (Simple id) ≡ []
IsFound t unions (Complex id) = Unit {0}

-- references go to lower ranks, what simple types are made of is simple, and what is known of unions is so
pub record IsKnown (d : Derivations) : Type 0 where
  pub ranked : IsRanked d.parts.now
  pub simple : AreSimple d.parts.now
  pub unions : AreUnions d.parts.now d.unions.items

-- a type that is there, and of which it is known what is within it
pub record IsAsked (d : Derivations) (of : TypeId) : Type 0 where
  pub there : IsType d.parts.now of
  pub found : IsFound d.parts.now d.unions.items of
