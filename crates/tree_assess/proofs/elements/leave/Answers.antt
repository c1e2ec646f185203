use Rattle.std.proofs.Common.{length, ◌<◌, subst, sym}
use Rattle.std.specs.Prelude.{All}
use Rattle.std.proofs.lemmas.Result.{IfOk-weaker}
use Rattle.assess_records.specs.declared.shape.ElementShape.{ElementShape}
use Rattle.assess_records.specs.declared.shape.NamedText.{NamedText}
use Rattle.elem_governing.specs.View.{AreKnown}
use Rattle.compiled_schema.specs.Usable.{set_of}
use Rattle.assessment.specs.Assessment.{AreJudged}
use Rattle.tree_assess.specs.Entries.{entry_of}
use Rattle.tree_assess.proofs.elements.leave.Goals as goal

pub judge-requires-clause-known : goal.judge-requires-clause-known
judge-requires-clause-known c = subst (λ (shape : ElementShape). AreKnown c.args.compiled.now.names shape.scope) (sym c.shape_of-shape.ensures) c.requires.known

pub judge-requires-clause-named : goal.judge-requires-clause-named
judge-requires-clause-named c =
    subst (λ (shape : ElementShape). All (λ (a : NamedText). a.name < length c.args.compiled.now.names.names) shape.attrs) (sym c.shape_of-shape.ensures) c.requires.named

pub returns-clause-judged : goal.returns-clause-judged
returns-clause-judged c =
    IfOk-weaker c.judge.result _ _ (λ entry h. subst (λ (shape : ElementShape). AreJudged (set_of c.args.compiled.now) shape (entry_of entry)) c.shape_of-shape.ensures h) c.judge.ensures.judged
