use Rattle.xsv_run.proofs.Trying.{tries_by}
use Rattle.xsv_run.proofs.trial.run_trial.Goals as goal

pub returns-clause-tries : goal.returns-clause-tries
returns-clause-tries g c =
    tries_by c.args.start c.args.items c.args.steps.now c.keep_replies-ended.new.steps c.keep_replies-ended.new.replies.text.items
    (g.W.Sink.taken c.args.sink.now) (g.W.Sink.taken c.conclude-status.new.sink) c.keep_replies-ended.result c.conclude-status.result
    (rw c.new-replies.ensures.text at c.keep_replies-ended.ensures.answers) (rw c.as_slice.ensures.value at c.conclude-status.ensures.writes)
