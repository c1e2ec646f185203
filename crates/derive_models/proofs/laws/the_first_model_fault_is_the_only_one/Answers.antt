use Rattle.derive_models.proofs.LeastFaults.{one-first}
use Rattle.derive_models.proofs.laws.the_first_model_fault_is_the_only_one.Goals as goal

pub returns : goal.returns
returns c = record { only = one-first }
