use Rattle.schema_check.proofs.TypesLaws.{types-one}
use Rattle.schema_check.proofs.laws_of_types.the_first_type_fault_is_the_only_one.Goals as goal

pub returns : goal.returns
returns c = record { only = types-one }
