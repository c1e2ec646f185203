use Rattle.std.proofs.Common.{refl}
use Rattle.xsv_run.proofs.running.generate.Goals as goal

pub returns-in-Ok-clause-generates : goal.returns-in-Ok-clause-generates
returns-in-Ok-clause-generates g c n = (c.in-Ok.ensures.written.all, refl)

pub returns-in-Err-clause-generates : goal.returns-in-Err-clause-generates
returns-in-Err-clause-generates g c n = (c.in-Err.ensures.written.front, refl)
