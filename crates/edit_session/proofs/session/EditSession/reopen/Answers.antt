use Rattle.std.proofs.Common.{◌≡◌, sym, subst}
use Rattle.std.specs.Prelude.{◌≤◌, ◌+◌, ◌*◌}
use Rattle.tree_rows.specs.Forest.{Document, count}
use Rattle.compiled_schema.specs.Usable.{set_of}
use Rattle.compiled_schema.specs.declared.compiled.Compiled.{Compiled}
use Rattle.doc_changes.specs.Stands.{StandsFor}
use Rattle.session_model.specs.Spending.{Counts}
use Rattle.session_model.specs.State.{State, with_names}
use Rattle.edit_session.specs.Held.{document_in, Stands, state_by}
use Rattle.edit_session.specs.Reopened.{IsReopened, swap_cost}
use Rattle.edit_session.proofs.Applying.{reopened-so}
use Rattle.edit_session.proofs.Standing.{stands-now}
use Rattle.edit_session.proofs.session.EditSession.reopen.Goals as goal

pub reopen_document-requires-clause-stands : goal.reopen_document-requires-clause-stands
reopen_document-requires-clause-stands g c = subst (λ (x : Compiled). Stands x c.self.inside.doc) (sym c.deref.ensures) c.self.invariant.stands

pub returns-in-Ok-clause-reopens : goal.returns-in-Ok-clause-reopens
returns-in-Ok-clause-reopens g c =
    let old = c.self.inside in
    let new = c.reopen_document.new in
    let set = c.args.set.value in
    subst (λ (x : State). IsReopened x (set_of set) (state_by new.set c.in-Ok.opened.doc c.in-Ok.opened.kept c.saturating_add-self-inside.result old.closed)) c.self.view_is
    (reopened-so old.set.value old.doc old.kept c.self.invariant.stands old.revision old.closed (set_of set) new.set c.in-Ok.opened.doc c.in-Ok.opened.kept c.saturating_add-self-inside.result old.closed
    c.if-self.false c.saturating_add-self-inside.ensures c.if-self.false
    (subst (λ (x : Compiled). (d : Document) → StandsFor x.names old.doc d → StandsFor new.set.names c.in-Ok.opened.doc d) c.deref.ensures c.in-Ok.ensures.stands)
    (subst (λ (x : Compiled). (d : Document) → StandsFor x.names old.doc d → set_of new.set ≡ with_names (set_of set) d.forest) c.deref.ensures
    (subst (λ (y : Compiled). (d : Document) → StandsFor c.deref.result.now.names old.doc d → set_of new.set ≡ with_names (set_of y) d.forest) c.deref_mut.ensures.value c.in-Ok.ensures.named))
    c.in-Ok.ensures.present)

pub returns-in-Ok-clause-spends : goal.returns-in-Ok-clause-spends
returns-in-Ok-clause-spends g c =
    let old = c.self.inside in
    let d = document_in old.set.value old.doc in
    let few = subst (λ (x : Compiled). (e : Document) → StandsFor x.names old.doc e → c.reopen_document.new.steps ≤ c.args.steps.now + 8 * count e.forest) c.deref.ensures c.reopen_document.ensures.few
    d (stands-now old.set.value old.doc c.self.invariant.stands) in
    subst (λ (x : State). Counts c.args.steps.now c.reopen_document.new.steps (swap_cost x)) c.self.view_is (record { later = c.reopen_document.ensures.least; few = few })

pub returns-in-Err-clause-spends : goal.returns-in-Err-clause-spends
returns-in-Err-clause-spends g c =
    let old = c.self.inside in
    let d = document_in old.set.value old.doc in
    let few = subst (λ (x : Compiled). (e : Document) → StandsFor x.names old.doc e → c.reopen_document.new.steps ≤ c.args.steps.now + 8 * count e.forest) c.deref.ensures c.reopen_document.ensures.few
    d (stands-now old.set.value old.doc c.self.invariant.stands) in
    subst (λ (x : State). Counts c.args.steps.now c.reopen_document.new.steps (swap_cost x)) c.self.view_is (record { later = c.reopen_document.ensures.least; few = few })
