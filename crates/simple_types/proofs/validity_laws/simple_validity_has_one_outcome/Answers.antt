use Rattle.simple_types.proofs.Valid.{one-outcome}
use Rattle.simple_types.proofs.validity_laws.simple_validity_has_one_outcome.Goals as goal

pub returns : goal.returns
returns c = record { one = one-outcome }
