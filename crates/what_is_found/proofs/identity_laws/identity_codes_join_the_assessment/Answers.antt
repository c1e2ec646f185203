use Rattle.what_is_found.proofs.Joining.{joined-is, parted-is}
use Rattle.what_is_found.proofs.identity_laws.identity_codes_join_the_assessment.Goals as goal

pub returns : goal.returns
returns c = record { joined = joined-is; parted = parted-is }
