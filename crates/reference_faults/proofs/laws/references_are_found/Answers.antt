use Rattle.reference_faults.proofs.FoundLaws.{all-resolve, place-found}
use Rattle.reference_faults.proofs.laws.references_are_found.Goals as goal

pub returns : goal.returns
returns c = record { resolve = all-resolve; found = place-found }
