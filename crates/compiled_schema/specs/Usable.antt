-- What a compiled schema set stands for, and when documents may be assessed by it.
use Rattle.std.specs.Prelude.{◌≡◌, ℕ, ◌<◌, List, Bool, Option, None, Some, Contains, IfSome, length, slice_get}
use Rattle.xs_names.specs.Names.{NameTable, Grown}
use Rattle.xs_names.specs.Numbering.{HasNoRepeats}
use Rattle.xs_components.specs.Tables.{Tables}
use Rattle.xs_components.specs.declared.complex.ComplexType.{ComplexType}
use Rattle.xs_components.specs.declared.element.ElementDecl.{ElementDecl}
use Rattle.xs_components.specs.declared.simple.SimpleType.{SimpleType}
use Rattle.xs_components.specs.Heads.{names_of}
use Rattle.element_declarations.specs.Groups.{AreGroups}
use Rattle.elem_governing.specs.View.{IsView}
use Rattle.elem_assess.specs.Source.{IsSource}
use Rattle.attr_assess.specs.Schema.{IsAttrSet}
use Rattle.attr_assess.specs.Known.{AreKnownUses}
use Rattle.attr_assess.specs.Types.{IsTypeSet}
use Rattle.attr_assess.specs.Added.{AreNamed as AreAttrsNamed}
use Rattle.element_declarations.specs.Classes.{AreClassesOf}
use Rattle.content_models.specs.Built.{IsBuilt}
use Rattle.content_models.specs.declared.automaton.ContentAutomaton.{ContentAutomaton}
use Rattle.schema_models.specs.Checks.{IsAmbiguousModel}
use Rattle.schema_models.specs.SetModels.{content_of}
use Rattle.xpath_subset.specs.Reads.{AreIdentities}
use Rattle.assessment.specs.Attribution.{SchemaSet}
use Rattle.compiled_schema.specs.declared.compiled.Compiled.{Compiled}

-- the schema set that is compiled
abbrev pub set_of : Compiled → SchemaSet
set_of c = record { names = c.names; parts = c.parts; members = c.members; classes = c.classes.items }

-- elements, types and attributes have names of the table, where they have one
pub record AreNamed (names : NameTable) (t : Tables) : Type 0 where
  pub elements : (n : ℕ) (part : ElementDecl) → slice_get t.elements.parts n ≡ Some part → part.name < length names.names
  pub simples : (n : ℕ) (part : SimpleType) → slice_get t.simples.parts n ≡ Some part → IfSome part.name (λ name. name < length names.names)
  pub complexes : (n : ℕ) (part : ComplexType) → slice_get t.complexes.parts n ≡ Some part → IfSome part.name (λ name. name < length names.names)
  pub attributes : AreAttrsNamed names t

-- The automaton of the content model of a particle, built over this table of names; the model is unambiguous (cos-nonambig,
-- Structures 3.8.6).
pub record IsModelOver (first : NameTable) (c : Compiled) (p : ℕ) (a : ContentAutomaton) : Type 0 where
  pub there : p < length c.parts.particles.parts
  pub built : IsBuilt first c.parts c.members c.classes.items p a
  pub unambiguous : IsAmbiguousModel first c.parts c.members p → ⊥

-- the complex type of a number has its automaton where it has a content model, and none where it has not
abbrev pub HasModelOver : NameTable → Compiled → ℕ → Option ContentAutomaton → Type 0
HasModelOver first c n None = content_of c.parts n ≡ None
HasModelOver first c n (Some a) = (p : ℕ) × (content_of c.parts n ≡ Some p) × IsModelOver first c p a

-- The automata of all content models, built over names from which the table has grown. That table has each name once, and the names
-- of the members of each substitution group.
pub record AreModels (c : Compiled) (first : NameTable) : Type 0 where
  pub grown : Grown first c.names
  pub once : HasNoRepeats first.names
  pub named : (element n : ℕ) → Contains (names_of c.members element) n → n < length first.names
  pub each : length c.models ≡ length c.parts.complexes.parts
  pub contents_each : length c.parts.contents ≡ length c.parts.complexes.parts
  pub are : (n : ℕ) (model : Option ContentAutomaton) → slice_get c.models n ≡ Some model → HasModelOver first c n model

-- Documents may be assessed by the set: governing declarations and types are read off it, elements and their attributes are judged
-- by it, and child elements are attributed to the terms of its content models; the paths of identity constraints are those that are written.
pub record IsUsable (c : Compiled) : Type 0 where
  pub named : AreNamed c.names c.parts
  pub view : IsView c.parts c.declarations c.named
  pub judging : IsSource c.parts c.contents c.types
  pub attributes : (ids : List Bool) × IsAttrSet c.parts c.named ids c.attr_uses
  pub attribute_types : IsTypeSet c.parts c.types
  pub known_uses : AreKnownUses c.parts c.known_uses
  pub groups : AreGroups c.parts c.members
  pub classes_are : AreClassesOf c.parts c.classes.items
  pub first : NameTable
  pub models_are : AreModels c first
  pub identities_are : AreIdentities c.parts c.identities.items
