-- Versions and what stands in redefines, as the code has them.
use Rattle.std.specs.Prelude.{ℕ, List}
use Rattle.std.specs.Option.{option_copied}
use Rattle.redefine_originals.specs.declared.versions.Redefinable.{Redefinable}
use Rattle.redefine_originals.specs.declared.versions.Declared.{Declared}
use Rattle.redefine_originals.specs.declared.versions.Child.{Child as ChildData}
use Rattle.redefine_originals.specs.declared.versions.Version.{Version as VersionData}
use Rattle.redefine_originals.specs.Versions.{Child, Version}

abbrev pub declared_entry : Declared → Redefinable × List ℕ
declared_entry d = (d.kind, d.name.now)

abbrev pub child_entry : ChildData → Child
child_entry c = record { location = c.location.now; shape = c.shape.now }

abbrev pub version_entry : VersionData → Version
version_entry v = record { document = v.document; location = option_copied v.location; shape = v.shape.now }
