-- What governing is read off.
use Rattle.std.specs.Prelude.{◌≡◌, ℕ, ◌<◌, Some, List, length, slice_get, All, IfSome}
use Rattle.xs_names.specs.Names.{NameTable}
use Rattle.xs_components.specs.Tables.{Tables}
use Rattle.xs_components.specs.declared.element.ElementDecl.{ElementDecl}
use Rattle.component_references.specs.Heights.{IsType}
use Rattle.component_references.specs.Ranked.{IsRanked}
use Rattle.component_tables.specs.Types.{DeclarationTable, AreDeclarationsOf}
use Rattle.component_tables.specs.Named.{Spaces, spaces_of}
use Rattle.type_derivation.specs.Within.{AreSimple}

-- The components of a schema set, and what was found of them: references go to parts of lower rank, what a simple type is made of is
-- simple, and the types that element declarations name are there.
pub record IsView (t : Tables) (d : DeclarationTable) (spaces : Spaces) : Type 0 where
  pub ranked : IsRanked t
  pub simple : AreSimple t
  pub types : (n : ℕ) (part : ElementDecl) → slice_get t.elements.parts n ≡ Some part → IfSome part.of (IsType t)
  pub declarations : AreDeclarationsOf t d
  pub named : spaces ≡ spaces_of t

-- the namespaces of a scope have names
abbrev pub AreKnown : NameTable → List (List ℕ × ℕ) → Type 0
AreKnown names scope = All (λ b. b.1 < length names.spaces) scope
