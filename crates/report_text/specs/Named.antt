-- Records that can be written by some tables: these have their names.
use Rattle.std.specs.Prelude.{◌≡◌, ℕ, ◌<◌, List, Option, Some, All, IfSome, length, slice_get}
use Rattle.xs_names.specs.Names.{NameTable}
use Rattle.xs_components.specs.Tables.{Tables}
use Rattle.xs_components.specs.declared.common.TypeId.{TypeId}
use Rattle.xs_components.specs.declared.common.TypeId.TheVariants.{AnyType, Builtin, Simple, Complex}
use Rattle.xs_components.specs.declared.complex.ComplexType.{ComplexType}
use Rattle.xs_components.specs.declared.simple.SimpleType.{SimpleType}
use Rattle.assess_records.specs.declared.record.AttrRecord.{AttrRecord}

module _ (names : NameTable) where
  abbrev pub IsName : ℕ → Type 0
  IsName name = name < length names.names

  -- a type is there, and its name, where it has one
  abbrev pub IsTypeNamed : Tables → TypeId → Type 0
  IsTypeNamed t AnyType = Unit {0}
  IsTypeNamed t (Builtin kind) = Unit {0}
  IsTypeNamed t (Simple id) = (part : SimpleType) × (slice_get t.simples.parts id ≡ Some part) × IfSome part.name IsName
  IsTypeNamed t (Complex id) = (part : ComplexType) × (slice_get t.complexes.parts id ≡ Some part) × IfSome part.name IsName

  -- the name and the type of a record are there
  pub record IsNamed (t : Tables) (name : ℕ) (of : Option TypeId) : Type 0 where
    pub name_there : IsName name
    pub type_there : IfSome of (IsTypeNamed t)

  -- those of the records of an element's attributes
  abbrev pub AreNamed : Tables → List AttrRecord → Type 0
  AreNamed t attrs = All (λ (a : AttrRecord). IsNamed t a.name a.of) attrs
