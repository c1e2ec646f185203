-- References of components to others, and ranks by which each reference goes lower.
use Rattle.std.specs.Prelude.{◌≡◌, ℕ, ◌+◌, ◌<◌, List, [], ◌∷◌, Option, None, Some, All, length, slice_get, slice_index, IfSome}
use Rattle.xs_components.specs.Table.{TableOf}
use Rattle.xs_components.specs.Tables.{Tables}
use Rattle.xs_components.specs.declared.common.TypeId.{TypeId}
use Rattle.xs_components.specs.declared.simple.SimpleForm.{SimpleForm}
use Rattle.xs_components.specs.declared.simple.SimpleForm.TheVariants.{Restrict, ListOf, UnionOf}
use Rattle.xs_components.specs.declared.particle.Term.{Term}
use Rattle.xs_components.specs.declared.particle.Term.TheVariants.{Element, Any, Group, Sequence, Choice, All as AllOf}
use Rattle.component_references.specs.Heights.{first_height, IsLower}

-- the types that a simple type is made of: its base, its item type or its member types
abbrev pub named_types : SimpleForm → List TypeId
named_types (Restrict base step) = base ∷ []
named_types (ListOf item) = item ∷ []
named_types (UnionOf members) = members

-- the particles that a term holds
abbrev pub held_particles : Term → List ℕ
held_particles (Element e) = []
held_particles (Any w) = []
held_particles (Group g) = []
held_particles (Sequence members) = members
held_particles (Choice members) = members
held_particles (AllOf members) = members

-- the group that a term refers to
abbrev pub named_group : Term → Option ℕ
named_group (Element e) = None
named_group (Any w) = None
named_group (Group g) = Some g
named_group (Sequence members) = None
named_group (Choice members) = None
named_group (AllOf members) = None

-- a part of a table that is there, of a rank below this
pub record IsBelow {T : Type 0} (table : TableOf T) (rank id : ℕ) : Type 0 where
  pub there : id < length table.parts
  pub lower : slice_index table.ranks id < rank

-- what is true of each part of a table, with its rank
abbrev pub EachPart : {T : Type 0} → TableOf T → (ℕ → T → Type 0) → Type 0
EachPart {T} table P = (n : ℕ) (part : T) → slice_get table.parts n ≡ Some part → P (slice_index table.ranks n) part

-- Each reference goes to a part that is there and has a lower rank: of a simple type to its base, item type and member
-- types, of a complex type to its base, of an element to its head, of a group to its particle, of an attribute group to
-- attribute groups, of a particle to the particles that it holds and to the group that it refers to.
pub record IsRanked (t : Tables) : Type 0 where
  pub simples : EachPart t.simples (λ rank part. All (IsLower t (first_height + rank)) (named_types part.form))
  pub complexes : EachPart t.complexes (λ rank part. IsLower t (first_height + rank) part.base)
  pub elements : EachPart t.elements (λ rank part. IfSome part.head (IsBelow t.elements rank))
  pub groups : EachPart t.groups (λ rank part. IfSome part.particle (IsBelow t.particles rank))
  pub attr_groups : EachPart t.attr_groups (λ rank part. All (IsBelow t.attr_groups rank) part.groups)
  pub particles : EachPart t.particles (λ rank part. All (IsBelow t.particles rank) (held_particles part.term))
  pub to_groups : EachPart t.particles (λ rank part. IfSome (named_group part.term) (IsBelow t.groups rank))
