use Rattle.redefine_names.specs.Renamed.{renamed}
use Rattle.schema_check.proofs.AlikeLaws.{all-same}
use Rattle.schema_check.proofs.version_laws.versions_are_shaped.Goals as goal

pub returns : goal.returns
returns c = record { shaped = λ t reps originals shaped. all-same reps (renamed t reps originals) (c.names_alone_change.ensures.unnamed t reps originals) shaped }
