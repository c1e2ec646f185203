use Rattle.schema_check.proofs.BrokenLaws.{first-broken, built-first}
use Rattle.schema_check.proofs.laws_of_types.the_first_type_fault_is_the_least.Goals as goal

pub returns : goal.returns
returns c = record {
  judged = λ t types ranked are. first-broken t ranked types are;
  built = built-first;
}
