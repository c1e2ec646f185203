use Rattle.std.proofs.Common.{◌≡◌, ◌++◌, map, take}
use Rattle.redefine_originals.specs.Versions.{on_top}
use Rattle.redefine_originals.specs.inside.Entries.{version_entry}
use Rattle.redefine_originals.proofs.document_versions.put_top.Given as goal

abbrev pub invariant-loop-shape : goal.invariant-loop-shape
invariant-loop-shape l = map version_entry l.versions ≡ map version_entry l.initial.versions ++ map (on_top l.document) (map (λ s. s.now) (take l.shape-index l.top))
