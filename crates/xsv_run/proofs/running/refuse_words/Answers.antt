use Rattle.std.proofs.Common.{refl}
use Rattle.xsv_run.proofs.running.refuse_words.Goals as goal

pub returns-in-Ok-clause-refuses : goal.returns-in-Ok-clause-refuses
returns-in-Ok-clause-refuses g c n = (c.in-Ok.ensures.written.all, refl)

pub returns-in-Err-clause-refuses : goal.returns-in-Err-clause-refuses
returns-in-Err-clause-refuses g c n = (c.in-Err.ensures.written.front, refl)
