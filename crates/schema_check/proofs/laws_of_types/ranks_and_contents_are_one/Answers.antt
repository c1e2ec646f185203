use Rattle.schema_check.proofs.RankedLaws.{ranked-same}
use Rattle.schema_check.proofs.laws_of_types.ranks_and_contents_are_one.Goals as goal

pub returns : goal.returns
returns c = record { only = ranked-same }
