use Rattle.xsv_run.proofs.trial.write_trial.Goals as goal

pub returns-in-Ok-clause-writes : goal.returns-in-Ok-clause-writes
returns-in-Ok-clause-writes g c =
    rw (c.generated_lines-lines.ensures, c.summary_of.ensures.accepted, c.summary_of.ensures.refused, c.summary_of.ensures.end) at c.in-Ok.ensures.written.all

pub returns-in-Err-clause-writes : goal.returns-in-Err-clause-writes
returns-in-Err-clause-writes g c =
    rw (c.generated_lines-lines.ensures, c.summary_of.ensures.accepted, c.summary_of.ensures.refused, c.summary_of.ensures.end) at c.in-Err.ensures.written.front
