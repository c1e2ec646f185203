use Rattle.std.proofs.Common.{ap, sym}
use Rattle.told.specs.Told.{asks}
use Rattle.told.proofs.Going.{answers_as}
use Rattle.told.proofs.Saying.{memory_breaks}
use Rattle.open_document.specs.Answers.{question}
use Rattle.open_document.specs.State.{with_documents}
use Rattle.stream_answers.specs.Output.{compiled_told}
use Rattle.stream_answers.specs.inside.Turns.{spot_behind}
use Rattle.stream_answers.proofs.schemas.end_schemas.Goals as goal

pub returns-in-Ok-clause-takes : goal.returns-in-Ok-clause-takes
returns-in-Ok-clause-takes g c n next stood =
    answers_as _ _ c.compile.result _ _ _
    (ap (λ l. asks (question l) (compiled_told (λ set. next (spot_behind c.args.asked c.args.line (with_documents l set))))) (sym c.in-Ok.ensures))
    (c.compile.ensures.takes n next stood)

pub returns-in-Err-clause-takes : goal.returns-in-Err-clause-takes
returns-in-Err-clause-takes g c n next stood = memory_breaks _ _
