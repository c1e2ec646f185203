-- The declaration and the type that govern an element, and how strictly it is assessed (Structures 3.3.4, 3.10.1, 5.2).
use Rattle.std.specs.Prelude.{ℕ, List, Option, None, Some, slice_get}
use Rattle.std.specs.Option.{option_and_then}
use Rattle.xs_names.specs.Names.{NameTable}
use Rattle.xs_components.specs.Tables.{Tables}
use Rattle.xs_components.specs.declared.common.Process.{Process}
use Rattle.xs_components.specs.declared.common.Process.TheVariants as process
use Rattle.xs_components.specs.declared.common.TypeId.{TypeId}
use Rattle.xs_components.specs.declared.common.TypeId.TheVariants.{AnyType}
use Rattle.xs_components.specs.declared.particle.Particle.{Particle}
use Rattle.xs_components.specs.declared.particle.Term.{Term}
use Rattle.xs_components.specs.declared.particle.Term.TheVariants.{Element, Any}
use Rattle.component_tables.specs.Types.{type_of, global_of, given_declaration}
use Rattle.elem_governing.specs.LocalType.{xsi_type}
use Rattle.elem_governing.specs.declared.pairs.Governing.{Governing}
use Rattle.elem_governing.specs.declared.pairs.Mode.{Mode}
use Rattle.elem_governing.specs.declared.pairs.Mode.TheVariants.{Strict, Lax, Skip}
use Rattle.elem_governing.specs.declared.local_types.XsiType.{XsiType}
use Rattle.elem_governing.specs.declared.local_types.XsiType.TheVariants.{Governs}

-- the type of a declaration; without one anyType (Structures 5.2)
abbrev pub declared_type : Tables → Option ℕ → TypeId
declared_type t None = AnyType
declared_type t (Some element) = type_of t element

-- the type that xsi:type says, where it governs, else this one
abbrev pub type_said : XsiType → TypeId → TypeId
type_said (Governs of) declared = of
type_said _ declared = declared

-- on an element that is skipped nothing governs
abbrev pub skipped : Governing
skipped = record { declaration = None; of = None; mode = Skip }

module _ (names : NameTable) (t : Tables) where
  -- The governing type definition (Structures 3.3.4, cvc-elt 4 and 5.2): that of xsi:type where it names one that may govern, else
  -- the declared one.
  abbrev pub governing_type : Option ℕ → Option (List ℕ) → List (List ℕ × ℕ) → TypeId
  governing_type declaration xsi scope = type_said (xsi_type names t declaration xsi scope) (declared_type t declaration)

  abbrev pub governed : Mode → Option ℕ → Option (List ℕ) → List (List ℕ × ℕ) → Governing
  governed Skip declaration xsi scope = skipped
  governed mode declaration xsi scope = record { declaration = declaration; of = Some (governing_type declaration xsi scope); mode = mode }

  -- What governs the root: the declaration at the top with its name. It is assessed strictly (Structures 5.2).
  abbrev pub govern_root : ℕ → Option (List ℕ) → List (List ℕ × ℕ) → Governing
  govern_root name xsi scope = governed Strict (global_of t name) xsi scope

-- a wildcard says how what it admits is assessed (Structures 3.10.1)
abbrev pub process_mode : Process → Mode
process_mode process.Strict = Strict
process_mode process.Lax = Lax
process_mode process.Skip = Skip

-- an element that an element term accepts is assessed strictly
abbrev pub term_mode : Term → Mode
term_mode (Element element) = Strict
term_mode (Any wildcard) = process_mode wildcard.process
term_mode _ = Lax

-- an element that no term accepts is assessed laxly
abbrev pub particle_mode : Option Particle → Mode
particle_mode None = Lax
particle_mode (Some part) = term_mode part.term

-- below an element that is skipped all are (Structures 3.10.1)
abbrev pub child_mode : Mode → Option Particle → Mode
child_mode Skip part = Skip
child_mode _ part = particle_mode part

module _ (t : Tables) (name : ℕ) where
  -- the declaration that an element term gives to the name; else the one at the top with the name (Structures 3.4.4, 3.10.1, 5.2)
  abbrev pub term_declaration : Term → Option ℕ
  term_declaration (Element element) = Some (given_declaration t element name)
  term_declaration _ = global_of t name

  abbrev pub particle_declaration : Option Particle → Option ℕ
  particle_declaration None = global_of t name
  particle_declaration (Some part) = term_declaration part.term

-- the particle whose term accepts an element, if one does
abbrev pub accepting_particle : Tables → Option ℕ → Option Particle
accepting_particle t term = option_and_then (slice_get t.particles.parts) term

-- What governs a child of an element that is assessed in this mode, where this term of the element's content model accepts it, if
-- one does: what the term gives it.
abbrev pub govern_child : NameTable → Tables → Mode → Option ℕ → ℕ → Option (List ℕ) → List (List ℕ × ℕ) → Governing
govern_child names t parent term name xsi scope =
    governed names t (child_mode parent (accepting_particle t term)) (particle_declaration t name (accepting_particle t term)) xsi scope
