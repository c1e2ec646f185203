use Rattle.schema_set.proofs.closing.close_set_from.Goals as goal

pub returns-in-Ok-clause-set : goal.returns-in-Ok-clause-set
returns-in-Ok-clause-set c = rw c.in_ok-sources.ensures.same at c.in-Ok.ensures.set

pub returns-in-Ok-clause-order : goal.returns-in-Ok-clause-order
returns-in-Ok-clause-order c = rw c.in_ok-sources.ensures.same at c.in-Ok.ensures.order

pub returns-in-Ok-clause-fault : goal.returns-in-Ok-clause-fault
returns-in-Ok-clause-fault c = rw c.in_ok-sources.ensures.same at c.in-Ok.ensures.fault
