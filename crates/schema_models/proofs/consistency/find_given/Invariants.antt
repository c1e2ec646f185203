use Rattle.std.proofs.Common.{◌≡◌, take}
use Rattle.std.specs.List.{flat_map}
use Rattle.schema_models.specs.Found.{live_types}
use Rattle.schema_models.proofs.consistency.find_given.Given as goal

abbrev pub invariant-loop-id : goal.invariant-loop-id
invariant-loop-id l = l.given.items ≡ flat_map (live_types l.members l.parts) (take l.id-index l.ids)
