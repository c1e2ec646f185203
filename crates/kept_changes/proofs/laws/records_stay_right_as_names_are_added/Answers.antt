use Rattle.kept_changes.proofs.Grown.{right-grown}
use Rattle.kept_changes.proofs.laws.records_stay_right_as_names_are_added.Goals as goal

pub returns : goal.returns
returns c = λ set new ns k grown sound right. right-grown set new ns k grown sound right
