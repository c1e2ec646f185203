-- What the comparison of restrictions with their bases asks of a schema set.
use Rattle.std.specs.Prelude.{◌≡◌, ℕ, ◌<◌, List, Bool, Some, length, slice_get}
use Rattle.xs_names.specs.Names.{NameTable}
use Rattle.xs_components.specs.Tables.{Tables}
use Rattle.xs_components.specs.declared.attribute.AttributeDecl.{AttributeDecl}
use Rattle.xs_components.specs.declared.common.TypeId.{TypeId}
use Rattle.xs_components.specs.declared.complex.ComplexType.{ComplexType}
use Rattle.xs_components.specs.declared.complex.ContentForm.TheVariants as forms
use Rattle.xs_components.specs.declared.simple.FacetItem.{FacetItem}
use Rattle.component_references.specs.Heights.{IsType}
use Rattle.component_references.specs.Ranked.{IsRanked}
use Rattle.type_derivation.specs.Within.{AreSimple}
use Rattle.simple_types.specs.Trees.{type_tree}
use Rattle.simple_types.specs.SimpleTypes.{AreTypesOf, AreWhole, IsSimpleTree}
use Rattle.simple_types.specs.declared.types.SimpleTypes.{SimpleTypes}
use Rattle.attr_uses.specs.Tables.{AreTablesOf}
use Rattle.component_tables.specs.Bases.{AreLinesOf}
use Rattle.component_tables.specs.ContentTypes.{AreContentsOf}
use Rattle.particle_forms.specs.Ranges.{AreRangesOf}
use Rattle.derive_restriction.specs.declared.set.ComparedSet.{ComparedSet}

-- an attribute declaration has a name of the table, and a type that is there and simple
pub record IsDeclaration (t : Tables) (names : NameTable) (decl : AttributeDecl) : Type 0 where
  pub named : decl.name < length names.names
  pub typed : IsType t decl.of
  pub simple : IsSimpleTree (type_tree t decl.of)

-- the simple types that stand in simple contents are there
abbrev pub AreOwnThere : Tables → Type 0
AreOwnThere t = (n : ℕ) (part : ComplexType) (own : TypeId) (step : List FacetItem) → slice_get t.complexes.parts n ≡ Some part → part.content ≡ forms.Simple (Some own) step → IsType t own

-- References go to lower ranks, what simple types are made of is simple, and what attribute declarations and contents refer to is there.
pub record AreGiven (t : Tables) (names : NameTable) : Type 0 where
  pub ranked : IsRanked t
  pub simple : AreSimple t
  pub attributes : (n : ℕ) (decl : AttributeDecl) → slice_get t.attributes.parts n ≡ Some decl → IsDeclaration t names decl
  pub own : AreOwnThere t
  pub contents : (n p : ℕ) → slice_get t.contents n ≡ Some (Some p) → n < length t.complexes.parts → p < length t.particles.parts

-- these are the simple types, and none of their literals are undefined
pub record AreTypes (t : Tables) (types : SimpleTypes) : Type 0 where
  pub judged : AreTypesOf t types
  pub whole : AreWhole t types

-- what is known of the components of a schema set is so
pub record AreKnown (set : ComparedSet) : Type 0 where
  pub given : AreGiven set.parts.now set.names.now
  pub tables : (ids : List Bool) × AreTablesOf set.parts.now ids set.tables.now
  pub contents : AreContentsOf set.parts.now set.contents.now
  pub ranges : AreRangesOf set.parts.now set.ranges.now
  pub bases : AreLinesOf set.parts.now set.bases.now
