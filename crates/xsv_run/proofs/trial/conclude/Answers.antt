use Rattle.std.proofs.Common.{Bool, refl, subst}
use Rattle.xsv_run.specs.declared.status.Status.TheVariants as statuses
use Rattle.xsv_run.specs.inside.Trying.{EndsSession}
use Rattle.xsv_run.proofs.trial.conclude.Goals as goal

pub returns-then-is_broken-clause-writes : goal.returns-then-is_broken-clause-writes
returns-then-is_broken-clause-writes g c =
    subst (λ (b : Bool). EndsSession b c.args.start c.args.items c.args.output.now statuses.Memory (g.W.Sink.taken c.args.sink.now) (g.W.Sink.taken c.args.sink.now))
    c.if-is_broken.ensures (refl, refl)

pub returns-else-is_broken-clause-writes : goal.returns-else-is_broken-clause-writes
returns-else-is_broken-clause-writes g c =
    subst (λ (b : Bool). EndsSession b c.args.start c.args.items c.args.output.now c.write_trial.result (g.W.Sink.taken c.args.sink.now) (g.W.Sink.taken c.write_trial.new.sink))
    c.if-is_broken.ensures c.write_trial.ensures.writes
