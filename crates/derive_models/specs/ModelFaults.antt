-- The restriction of content models and of redefining groups in a schema set (Structures 3.4.6, 5.4.2; 3.9.6; 4.2.2).
use Rattle.std.specs.Prelude.{◌≡◌, ◌⊎◌, ℕ, List, Option, Some, IfSome, slice_get}
use Rattle.xs_codes.specs.declared.fault.Fault.{Fault}
use Rattle.xs_codes.specs.Least.{IsLeast}
use Rattle.xs_names.specs.Names.{NameTable}
use Rattle.xs_components.specs.Tables.{Tables}
use Rattle.xs_components.specs.declared.common.TypeId.{TypeId}
use Rattle.xs_components.specs.declared.element.ElementDecl.{ElementDecl}
use Rattle.component_references.specs.Heights.{IsType}
use Rattle.component_references.specs.Ranked.{IsRanked}
use Rattle.component_tables.specs.ContentTypes.{AreContentsOf, content_of}
use Rattle.component_tables.specs.declared.content_types.ContentType.TheVariants.{SimpleType, SimpleContent}
use Rattle.component_tables.specs.Types.{AreDeclarationsOf}
use Rattle.elem_governing.specs.Derived.{derives}
use Rattle.derive_models.specs.Derivation.{excluded}
use Rattle.derive_models.specs.Fixed.{AreFixedNumbers}
use Rattle.particle_restrict.specs.declared.terms.Term.{Term}
use Rattle.derive_models.specs.AnyType.{AreContentsThere}
use Rattle.derive_models.specs.Terms.{AreElementsNamed, AreTerms}
use Rattle.simple_types.specs.SimpleTypes.{AreTypesOf, IsWhole}
use Rattle.simple_types.specs.declared.types.SimpleTypes.{SimpleTypes}
use Rattle.type_derivation.specs.Within.{AreSimple}
use Rattle.derive_models.specs.GroupRestrictions.{IsRestrictionFault}
use Rattle.redefine_names.specs.declared.pairs.RedefinedPair.{RedefinedPair}
use Rattle.derive_models.specs.declared.models.ModelSet.{ModelSet}

-- The terms of particles by number, with numbers of fixed values that two declarations share exactly where their values are the same.
-- Which numbers these are makes no difference: they are compared with one another alone.
pub record IsReading (t : Tables) (names : NameTable) (terms : List Term) : Type 0 where
  pub fixed : List (Option ℕ)
  pub numbers : AreFixedNumbers t fixed
  pub right : AreTerms t names fixed terms

-- the first fault of phase 9, of the restriction of content models and of redefining groups, by the pairs of these and of what they
-- redefine, or none
abbrev pub IsFirstModelFault : Tables → NameTable → List (List ℕ) → List RedefinedPair → Option Fault → Type 0
IsFirstModelFault t names members pairs found = (terms : List Term) × IsReading t names terms × IsLeast (IsRestrictionFault t members terms (derives t excluded) pairs) found

-- What is known of a schema set: references go to lower ranks, what simple types are made of is simple, the types that elements name and
-- the particles of contents are there, and elements have names of the table.
pub record AreKnown (set : ModelSet) : Type 0 where
  pub ranked : IsRanked set.parts.now
  pub simple : AreSimple set.parts.now
  pub elements : (n : ℕ) (part : ElementDecl) → slice_get set.parts.now.elements.parts n ≡ Some part → IfSome part.of (IsType set.parts.now)
  pub named : AreElementsNamed set.parts.now set.names.now
  pub there : AreContentsThere set.parts.now
  pub declarations : AreDeclarationsOf set.parts.now set.declarations.now
  pub contents : AreContentsOf set.parts.now set.contents.now

-- these are the simple types, and the literals of types with simple content are known
pub record AreRead (t : Tables) (types : SimpleTypes) : Type 0 where
  pub judged : AreTypesOf t types
  pub whole : (of : TypeId) → IsType t of → (content_of t of ≡ SimpleType) ⊎ (content_of t of ≡ SimpleContent) → IsWhole types of
