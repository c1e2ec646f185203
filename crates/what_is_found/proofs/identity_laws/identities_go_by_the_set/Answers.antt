use Rattle.what_is_found.proofs.OneReading.{identities-once, beside-once}
use Rattle.what_is_found.proofs.identity_laws.identities_go_by_the_set.Goals as goal

pub returns : goal.returns
returns c = record { one = identities-once; beside = beside-once }
