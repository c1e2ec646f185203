use Rattle.kept_next.proofs.One.{one-list}
use Rattle.kept_next.proofs.laws.answers_are_one.Goals as goal

pub returns : goal.returns
returns c = record { only = one-list }
