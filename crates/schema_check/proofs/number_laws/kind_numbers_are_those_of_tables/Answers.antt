use Rattle.schema_check.proofs.NumberLaws.{group-numbers, attr-group-numbers}
use Rattle.schema_check.proofs.number_laws.kind_numbers_are_those_of_tables.Goals as goal

pub returns : goal.returns
returns c = record { groups = group-numbers; attr_groups = attr-group-numbers }
