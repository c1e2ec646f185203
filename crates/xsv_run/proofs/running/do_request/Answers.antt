use Rattle.std.proofs.Common.{refl}
use Rattle.xsv_run.proofs.running.do_request.Goals as goal

pub returns-in-Read-clause-runs : goal.returns-in-Read-clause-runs
returns-in-Read-clause-runs g c = rw c.in-Read.is (rw c.wanted_of-wanted.ensures at c.answer_stream.ensures.reads)

pub returns-in-Generate-clause-runs : goal.returns-in-Generate-clause-runs
returns-in-Generate-clause-runs g c = rw c.in-Generate.is (c.generate.ensures.generates c.args.steps.now, refl)

pub returns-in-Trial-clause-runs : goal.returns-in-Trial-clause-runs
returns-in-Trial-clause-runs g c = rw c.in-Trial.is (c.run_trial.ensures.tries, refl)
