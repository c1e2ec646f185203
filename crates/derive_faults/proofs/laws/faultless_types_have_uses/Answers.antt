use Rattle.derive_faults.proofs.FaultlessLaws.{has-uses}
use Rattle.derive_faults.proofs.laws.faultless_types_have_uses.Goals as goal

pub returns : goal.returns
returns c = record { uses = has-uses }
