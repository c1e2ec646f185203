use Rattle.told.specs.Going.{trace}
use Rattle.command_words.specs.Requests.{request}
use Rattle.xsv_run.proofs.Trying.{no_memory, refused_runs, runs_as}
use Rattle.xsv_run.proofs.running.run.Goals as goal

pub returns-in-Err-clause-runs : goal.returns-in-Err-clause-runs
returns-in-Err-clause-runs g c =
    no_memory (request c.args.words.now) c.in-Err.ensures.memory (trace (g.W.Sink.taken c.args.sink.now) c.args.steps.now) (g.S.Source.rest c.args.source.now)

pub returns-in-Ok-None-clause-runs : goal.returns-in-Ok-None-clause-runs
returns-in-Ok-None-clause-runs g c =
    refused_runs (request c.args.words.now) (rw c.in-Ok-None.field-0-is at c.in-Ok-None.ensures.asked) c.refuse_words.result (trace (g.W.Sink.taken c.args.sink.now) c.args.steps.now)
    (trace (g.W.Sink.taken c.refuse_words.new.sink) c.args.steps.now) (g.S.Source.rest c.args.source.now) (c.refuse_words.ensures.refuses c.args.steps.now)

pub returns-in-Ok-Some-clause-runs : goal.returns-in-Ok-Some-clause-runs
returns-in-Ok-Some-clause-runs g c =
    runs_as (request c.args.words.now) c.in-Ok-Some.request (rw c.in-Ok-Some.field-0-is at c.in-Ok-Some.ensures.asked) c.do_request.result
    (trace (g.W.Sink.taken c.args.sink.now) c.args.steps.now) (trace (g.W.Sink.taken c.do_request.new.sink) c.do_request.new.steps)
    (g.S.Source.rest c.args.source.now) (g.S.Source.rest c.do_request.new.source) c.do_request.ensures.runs
