-- The versions that a document has, as the code has them.
use Rattle.std.specs.Prelude.{◌≡◌, ℕ, ◌++◌, List, Option, map}
use Rattle.schema_shape.specs.declared.forms.Shape.{Shape}
use Rattle.redefine_originals.specs.declared.versions.Redefinable.{Redefinable}
use Rattle.redefine_originals.specs.declared.versions.Redefinable.TheVariants as kind
use Rattle.redefine_originals.specs.declared.document_versions.DocumentVersions.{DocumentVersions}
use Rattle.redefine_originals.specs.Versions.{Version, in_redefine, on_top, at_top, redefining, version_in}
use Rattle.redefine_originals.specs.inside.Named.{found}

-- all versions of a document of this number, in the order in which they count
abbrev pub all_versions : ℕ → List Shape → List Version
all_versions document shapes = map (in_redefine document) (redefining shapes) ++ map (on_top document) (at_top shapes)

abbrev pub version_found : DocumentVersions → Redefinable → List ℕ → Option Version
version_found versions kind.Type name = found versions.types name
version_found versions kind.Group name = found versions.groups name
version_found versions kind.AttributeGroup name = found versions.attribute_groups name

-- these are the versions that the document of this number has
abbrev pub HasVersions : ℕ → List Shape → DocumentVersions → Type 0
HasVersions document shapes versions = (of : Redefinable) (name : List ℕ) → version_found versions of name ≡ version_in document shapes of name
