-- Versions by their names, as the code has them.
use Rattle.std.specs.Prelude.{ℕ, List, Option}
use Rattle.std.specs.HashMap.{get_by}
use Rattle.std.specs.Option.{option_map}
use Rattle.std.specs.Str.{bytes_eq}
use Rattle.redefine_originals.specs.declared.named.NamedVersions.{NamedVersions}
use Rattle.redefine_originals.specs.Versions.{Version}
use Rattle.redefine_originals.specs.inside.Entries.{version_entry}

-- the version of a name
abbrev pub found : NamedVersions → List ℕ → Option Version
found named name = option_map version_entry (get_by (λ k. bytes_eq name k.now) named.inner)
