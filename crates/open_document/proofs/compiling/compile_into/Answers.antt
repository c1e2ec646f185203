use Rattle.std.proofs.Common.{subst}
use Rattle.schema_compile.specs.Outcomes.{IsOutcome}
use Rattle.open_document.specs.Held.{work_of}
use Rattle.open_document.proofs.Accepted.{told_and_worked}
use Rattle.open_document.proofs.compiling.compile_into.Goals as goal

pub returns-in-Ok-clause-compiled : goal.returns-in-Ok-clause-compiled
returns-in-Ok-clause-compiled c =
    told_and_worked c.args.documents.items c.take.result (work_of c.args.held.now) (work_of c.take.new.held) c.in-Ok.outcome
    (subst (λ l. IsOutcome l 0 c.in-Ok.outcome) c.as_slice.ensures.value c.in-Ok.ensures.outcome) c.take.ensures.told c.take.ensures.work
