use Rattle.std.proofs.Common.{subst}
use Rattle.told.specs.Told.{Told}
use Rattle.told.specs.Going.{Goes, trace}
use Rattle.stream_answers.specs.inside.Turns.{turned}
use Rattle.stream_answers.specs.inside.Turning.{stands}
use Rattle.stream_answers.proofs.Standing.{settled, settled_open}
use Rattle.stream_answers.proofs.stream.Stream.answer.Goals as goal

pub returns-in-Ok-clause-takes : goal.returns-in-Ok-clause-takes
returns-in-Ok-clause-takes g c next =
    let x = turned c.args.self.now.wanted c.args.line (stands c.args.self.now) c.args.item next in
    let a = trace (g.W.Sink.taken c.args.sink.now) c.args.steps.now in
    let b = trace (g.W.Sink.taken c.take.new.sink) c.take.new.steps in
    subst (λ (t : Told). Goes x a b t)
    (settled c.take.new.self.place c.settle.new.place c.take.new.self.work c.in-Ok.turn c.settle.result c.settle.ensures.ended c.settle.ensures.place next)
    (c.in-Ok.ensures.takes next)

pub returns-in-Ok-clause-open : goal.returns-in-Ok-clause-open
returns-in-Ok-clause-open g c =
    settled_open c.take.new.self.place c.settle.new.place c.take.new.self.work c.in-Ok.turn c.settle.result c.settle.ensures.ended c.settle.ensures.place
    c.in-Ok.ensures.open

pub returns-in-Err-clause-takes : goal.returns-in-Err-clause-takes
returns-in-Err-clause-takes g c next = c.in-Err.ensures.takes next
