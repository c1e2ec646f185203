use Rattle.simple_types.proofs.LeastLaws.{rules_are_least, types_are_least}
use Rattle.simple_types.proofs.laws.first_is_least.Goals as goal

pub returns : goal.returns
returns c = record {
  rules = rules_are_least;
  types = types_are_least;
}
