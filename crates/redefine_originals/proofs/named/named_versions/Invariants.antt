use Rattle.std.proofs.Common.{◌≡◌, ℕ, List, map, take}
use Rattle.std.specs.List.{find}
use Rattle.redefine_originals.specs.Versions.{declares}
use Rattle.redefine_originals.specs.inside.Entries.{version_entry}
use Rattle.redefine_originals.specs.inside.Named.{found}
use Rattle.redefine_originals.proofs.named.named_versions.Given as goal

abbrev pub invariant-loop-version : goal.invariant-loop-version
invariant-loop-version l = (q : List ℕ) → found l.named q ≡ find (λ v. declares l.kind q v.shape) (map version_entry (take l.version-index l.versions))
