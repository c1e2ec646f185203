use Rattle.schema_check.proofs.FaultLaws.{are-resolved}
use Rattle.schema_check.proofs.resolved.names_resolve.Goals as goal

pub returns : goal.returns
returns c = record { resolved = are-resolved }
