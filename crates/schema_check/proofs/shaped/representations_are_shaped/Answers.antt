use Rattle.schema_check.proofs.SetLaws.{all-shaped}
use Rattle.schema_check.proofs.shaped.representations_are_shaped.Goals as goal

pub returns : goal.returns
returns c = record { shaped = all-shaped }
