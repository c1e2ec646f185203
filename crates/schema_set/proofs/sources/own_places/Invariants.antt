use Rattle.std.proofs.Common.{◌≡◌, take}
use Rattle.schema_set.specs.Sourced.{own_places}
use Rattle.schema_set.proofs.sources.own_places.Given as goal

abbrev pub invariant-loop-document : goal.invariant-loop-document
invariant-loop-document l = l.places.items ≡ own_places l.available (take l.document-index l.available)
