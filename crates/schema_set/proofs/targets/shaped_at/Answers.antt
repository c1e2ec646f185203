use Rattle.std.proofs.Common.{ap}
use Rattle.std.specs.Option.{option_map}
use Rattle.std.proofs.lemmas.Option.{slice_get-get_or}
use Rattle.schema_set.specs.declared.documents.Available.{Available}
use Rattle.schema_set.proofs.targets.shaped_at.Goals as goal

pub returns : goal.returns
returns c = ap (option_map (λ (a : Available). a.shaped)) (slice_get-get_or c.args.available.now c.args.place c.index-available-place.result c.requires)
