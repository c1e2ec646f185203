use Rattle.std.proofs.Common.{ap, ◌∙◌, subst}
use Rattle.std.specs.Prelude.{◌≤◌, ◌+◌, ◌*◌}
use Rattle.std.proofs.lemmas.Result.{IfOk-weaker, on_ok_weaker}
use Rattle.tree_rows.specs.Forest.{Document, count}
use Rattle.compiled_schema.specs.Usable.{set_of}
use Rattle.doc_changes.specs.Stands.{StandsFor}
use Rattle.session_model.specs.State.{with_names}
use Rattle.edit_session.specs.declared.opening.Opened.{Opened}
use Rattle.edit_session.proofs.reopening.reopen_document.Goals as goal

pub returns-clause-stands : goal.returns-clause-stands
returns-clause-stands g c =
    let names = c.open_document.new.set.names in
    IfOk-weaker c.open_document.result (λ (x : Opened). StandsFor names x.doc c.in_ok-tree.tree) (λ (x : Opened). (d : Document) → StandsFor c.args.names.now c.args.doc.now d → StandsFor names x.doc d)
    (λ x stands d is. subst (StandsFor names x.doc) (c.in_ok-tree.ensures.tree d is) stands) c.open_document.ensures.stands

pub returns-clause-named : goal.returns-clause-named
returns-clause-named g c =
    on_ok_weaker c.open_document.result (λ named d is. named ∙ ap (λ (x : Document). with_names (set_of c.args.set.now) x.forest) (c.in_ok-tree.ensures.tree d is)) c.open_document.ensures.named

pub returns-clause-few : goal.returns-clause-few
returns-clause-few g c = λ d is.
    subst (λ (x : Document). c.open_document.new.steps ≤ c.args.steps.now + 8 * count x.forest) (c.in_ok-tree.ensures.tree d is) c.open_document.ensures.few
