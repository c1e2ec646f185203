use Rattle.kept_records.proofs.Made.{made-elements, elements-made}
use Rattle.kept_records.proofs.Settled.{assessed}
use Rattle.kept_records.proofs.Said.{is-found}
use Rattle.kept_records.proofs.Kept.{entry-is, total-is, ids-are}
use Rattle.kept_records.proofs.laws.fitting_slots_are_the_assessment.Goals as goal

pub returns-clause-made : goal.returns-clause-made
returns-clause-made c = λ set ns ks v codes d a n. (made-elements set ns ks v codes d a n, elements-made set ns ks v codes d a n)

pub returns-clause-assessed : goal.returns-clause-assessed
returns-clause-assessed c = λ set ns ks v codes d b a says. assessed set ns ks v codes d a b says

pub returns-clause-found : goal.returns-clause-found
returns-clause-found c = λ set ns ks v codes d a says. is-found set ns ks v codes d a says

pub returns-clause-entries : goal.returns-clause-entries
returns-clause-entries c = λ set ns ks v codes d a n. entry-is set ns ks v codes d a n

pub returns-clause-sums : goal.returns-clause-sums
returns-clause-sums c = λ set ns r v codes d a booked. (total-is set ns r v codes d a booked, ids-are set ns r v codes d a booked)
