use Rattle.std.proofs.Common.{refl, sym, ap, ◌∙◌}
use Rattle.told.specs.Going.{trace}
use Rattle.open_document.specs.Held.{state_of, work_of}
use Rattle.open_document.specs.State.{working}
use Rattle.open_document.specs.declared.held.OpenDocument.{OpenDocument}
use Rattle.open_document.proofs.Worked.{answered_by}
use Rattle.open_document.proofs.workspace.Workspace.answer.Goals as goal

pub returns-clause-answers : goal.returns-clause-answers
returns-clause-answers g c = λ s next at.
    answered_by c.args.line.now c.args.block next c.answer.result (trace (g.W.Sink.taken c.args.sink.now) c.args.steps.now) (trace (g.W.Sink.taken c.answer.new.sink) c.answer.new.steps)
    s (state_of c.deref_mut.result.now) (state_of c.answer.new.document) c.args.self.now _
    (ap (λ (x : OpenDocument). working (state_of x)) c.deref_mut.ensures.value ∙ (ap work_of (sym c.in-Working.is) ∙ c.self.view_is)) at refl
    (c.answer.ensures.answers (λ q. next (working q)))
