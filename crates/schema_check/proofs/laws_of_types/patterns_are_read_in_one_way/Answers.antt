use Rattle.schema_check.proofs.PatternLaws.{reads-one}
use Rattle.schema_check.proofs.laws_of_types.patterns_are_read_in_one_way.Goals as goal

pub returns : goal.returns
returns c = record { only = reads-one }
