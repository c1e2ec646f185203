-- The references among components of one kind or two, as lists of numbers: those of the second kind stand behind all of the
-- first.
use Rattle.std.specs.Prelude.{◌≡◌, ℕ, ◌+◌, ◌<◌, List, [], ◌∷◌, ◌++◌, Option, None, Some, All, map, length, slice_get, IfSome}
use Rattle.std.specs.List.{flat_map}
use Rattle.xs_components.specs.Table.{TableOf}
use Rattle.xs_components.specs.Tables.{Tables}
use Rattle.xs_components.specs.declared.common.TypeId.{TypeId}
use Rattle.xs_components.specs.declared.common.TypeId.TheVariants.{AnyType, Builtin, Simple, Complex}
use Rattle.xs_components.specs.declared.complex.ContentForm.{ContentForm}
use Rattle.xs_components.specs.declared.complex.ContentForm.TheVariants as forms
use Rattle.xs_components.specs.declared.particle.Particle.{Particle}
use Rattle.xs_components.specs.declared.particle.Term.{Term}
use Rattle.xs_components.specs.declared.particle.Term.TheVariants.{Element, Any, Group, Sequence, Choice, All as AllOf}
use Rattle.component_references.specs.Heights.{IsType}
use Rattle.component_references.specs.Ranked.{named_types, held_particles, named_group}

abbrev pub one_or_none : Option ℕ → List ℕ
one_or_none None = []
one_or_none (Some n) = n ∷ []

-- the numbers of parts behind so many others
abbrev pub behind : ℕ → List ℕ → List ℕ
behind before numbers = map (λ n. before + n) numbers

-- the number of a type among all, the simple types first, then the complex types; built-in types have none
abbrev pub type_number : ℕ → TypeId → List ℕ
type_number simples AnyType = []
type_number simples (Builtin b) = []
type_number simples (Simple id) = id ∷ []
type_number simples (Complex id) = (simples + id) ∷ []

abbrev pub type_numbers : ℕ → List TypeId → List ℕ
type_numbers simples types = flat_map (type_number simples) types

abbrev pub simple_references : Tables → List (List ℕ)
simple_references t = map (λ part. type_numbers (length t.simples.parts) (named_types part.form)) t.simples.parts

abbrev pub complex_references : Tables → List (List ℕ)
complex_references t = map (λ part. type_number (length t.simples.parts) part.base) t.complexes.parts

-- a simple type refers to its base, its item type or its member types, a complex type to its base
abbrev pub type_references : Tables → List (List ℕ)
type_references t = simple_references t ++ complex_references t

-- an element refers to the head of its substitution group
abbrev pub element_references : Tables → List (List ℕ)
element_references t = map (λ part. one_or_none part.head) t.elements.parts

-- an attribute group refers to attribute groups
abbrev pub attr_group_references : Tables → List (List ℕ)
attr_group_references t = map (λ part. part.groups) t.attr_groups.parts

abbrev pub group_references : Tables → List (List ℕ)
group_references t = map (λ part. behind (length t.groups.parts) (one_or_none part.particle)) t.groups.parts

-- a reference to a group, or the particles that stand in a group
abbrev pub term_numbers : ℕ → Term → List ℕ
term_numbers groups term = one_or_none (named_group term) ++ behind groups (held_particles term)

abbrev pub particle_references : Tables → List (List ℕ)
particle_references t = map (λ part. term_numbers (length t.groups.parts) part.term) t.particles.parts

-- a group refers to its particle, a particle to those that it holds and to the group that it names; the groups stand first
abbrev pub model_references : Tables → List (List ℕ)
model_references t = group_references t ++ particle_references t

-- the particle of the effective content
abbrev pub effective_of : ContentForm → Option ℕ
effective_of (forms.Simple own step) = None
effective_of (forms.Complex effective mixed) = effective

-- what is true of each part of a table
abbrev pub Each : {T : Type 0} → TableOf T → (T → Type 0) → Type 0
Each {T} table P = (n : ℕ) (part : T) → slice_get table.parts n ≡ Some part → P part

-- there is a part of this number
abbrev pub IsPart : {T : Type 0} → TableOf T → ℕ → Type 0
IsPart table n = n < length table.parts

-- Whatever is referred to is there. A model group holds particles that were added before it.
pub record IsClosed (t : Tables) : Type 0 where
  pub simples : Each t.simples (λ part. All (IsType t) (named_types part.form))
  pub complexes : Each t.complexes (λ part. IsType t part.base)
  pub elements : Each t.elements (λ part. IfSome part.head (IsPart t.elements))
  pub groups : Each t.groups (λ part. IfSome part.particle (IsPart t.particles))
  pub attr_groups : Each t.attr_groups (λ part. All (IsPart t.attr_groups) part.groups)
  pub effectives : Each t.complexes (λ part. IfSome (effective_of part.content) (IsPart t.particles))
  pub particles : (n : ℕ) (part : Particle) → slice_get t.particles.parts n ≡ Some part → All (λ m. m < n) (held_particles part.term)
  pub to_groups : Each t.particles (λ part. IfSome (named_group part.term) (IsPart t.groups))
