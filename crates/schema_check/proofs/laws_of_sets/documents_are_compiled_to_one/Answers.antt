use Rattle.schema_check.proofs.CompileLaws.{compilations-same}
use Rattle.schema_check.proofs.laws_of_sets.documents_are_compiled_to_one.Goals as goal

pub returns : goal.returns
returns c = record { only = compilations-same }
