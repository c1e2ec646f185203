use Rattle.told.proofs.Saying.{memory_breaks}
use Rattle.stream_answers.proofs.Compiling.{takes_accepted, takes_broken}
use Rattle.stream_answers.proofs.schemas.compile.Goals as goal

pub returns-in-Ok-Accepted-clause-takes : goal.returns-in-Ok-Accepted-clause-takes
returns-in-Ok-Accepted-clause-takes g c n next stood =
    takes_accepted c.args.documents.items c.args.work.now c.compile.new.self c.args.asked c.args.line n next stood _ _ c.accept.result
    (rw c.in-Ok-Accepted.field-0-is at c.in-Ok-Accepted.ensures.compiled) c.accept.ensures.tells.wrote c.accept.ensures.goes

pub returns-in-Ok-Broken-clause-takes : goal.returns-in-Ok-Broken-clause-takes
returns-in-Ok-Broken-clause-takes g c n next stood =
    takes_broken c.args.documents.items c.args.work.now c.compile.new.self c.args.asked c.args.line n next stood _ _ c.refuse_set.result c.in-Ok-Broken.fault
    (rw c.in-Ok-Broken.field-0-is at c.in-Ok-Broken.ensures.compiled) c.refuse_set.ensures.tells.wrote c.refuse_set.ensures.ends

pub returns-in-Err-clause-takes : goal.returns-in-Err-clause-takes
returns-in-Err-clause-takes g c n next stood = memory_breaks _ _
