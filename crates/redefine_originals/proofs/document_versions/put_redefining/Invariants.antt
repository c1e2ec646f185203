use Rattle.std.proofs.Common.{◌≡◌, ◌++◌, map, take}
use Rattle.redefine_originals.specs.Versions.{in_redefine}
use Rattle.redefine_originals.specs.inside.Entries.{child_entry, version_entry}
use Rattle.redefine_originals.proofs.document_versions.put_redefining.Given as goal

abbrev pub invariant-loop-child : goal.invariant-loop-child
invariant-loop-child l = map version_entry l.versions ≡ map version_entry l.initial.versions ++ map (in_redefine l.document) (map child_entry (take l.child-index l.children))
