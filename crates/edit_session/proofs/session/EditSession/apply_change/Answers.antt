use Rattle.std.proofs.Common.{sym, ◌∙◌, subst}
use Rattle.tree_edits.specs.Inverses as law
use Rattle.compiled_schema.specs.declared.compiled.Compiled.{Compiled}
use Rattle.doc_tree.specs.Changes.{Means}
use Rattle.session_model.specs.Spending.{Counts}
use Rattle.session_model.specs.State.{State}
use Rattle.kept_keys.specs.Keys.{AreTargetsBy}
use Rattle.edit_session.specs.Changed.{CanChange, IsChanged, IsReached, TakesWithin}
use Rattle.edit_session.specs.Costs.{change_cost}
use Rattle.edit_session.specs.Held.{document_in, state_by, IsPresent}
use Rattle.edit_session.proofs.Changing.{changed-so, changed-spent}
use Rattle.edit_session.proofs.session.EditSession.apply_change.Goals as goal

pub change_kept-requires-clause-can : goal.change_kept-requires-clause-can
change_kept-requires-clause-can g c =
    let q = c.requires in
    let can = subst (λ (x : State). CanChange x c.args.change q.0) (sym c.self.view_is) q.1 c.if-self.false in
    subst (λ (x : Compiled). (own : law.Change) × Means x.names c.args.change own × law.Fits (document_in x c.self.inside.doc) own) (sym c.deref_mut.ensures.value) (q.0, can.0, can.1)

-- ---- the change is made

pub invariant_of-self : goal.invariant_of-self
invariant_of-self g c =
    let q = c.requires in
    let old = c.self.inside in
    let new = c.change_kept.new in
    let m = subst (λ (x : State). CanChange x c.args.change q.0) (sym c.self.view_is) q.1 c.if-self.false in
    let reached = subst (λ (x : Compiled). (o : law.Change) → Means x.names c.args.change o → law.Fits (document_in x old.doc) o → IsReached x old.doc new.doc new.kept o) c.deref_mut.ensures.value c.in-Ok.ensures.done q.0 m.0 m.1 in
    let same = c.change_kept.ensures.same ∙ c.deref_mut.ensures.value in
    record {
      stands = c.change_kept.ensures.stands;
      present = λ open_now. subst (λ (x : Compiled). IsPresent x new.doc new.kept) (sym same) reached.present;
      targets = λ open_now. subst (λ (x : Compiled). AreTargetsBy x new.doc new.kept.records.slots new.keys) (sym c.change_kept.ensures.same) c.in-Ok.ensures.targets;
    }

pub returns-in-Ok-clause-changes : goal.returns-in-Ok-clause-changes
returns-in-Ok-clause-changes g c = λ own can.
    let old = c.self.inside in
    let set = old.set.value in
    let new = c.change_kept.new in
    let m = subst (λ (x : State). CanChange x c.args.change own) (sym c.self.view_is) can c.if-self.false in
    let reached = subst (λ (x : Compiled). (o : law.Change) → Means x.names c.args.change o → law.Fits (document_in x old.doc) o → IsReached x old.doc new.doc new.kept o) c.deref_mut.ensures.value c.in-Ok.ensures.done own m.0 m.1 in
    let same = c.change_kept.ensures.same ∙ c.deref_mut.ensures.value in
    subst (λ (x : State). IsChanged x own (state_by new.set new.doc new.kept c.saturating_add-self-inside.result old.closed)) c.self.view_is
    (subst (λ (y : Compiled). IsChanged (state_by set old.doc old.kept old.revision old.closed) own (state_by y new.doc new.kept c.saturating_add-self-inside.result old.closed)) (sym same)
    (changed-so set old.doc new.doc old.kept new.kept own reached old.revision old.closed c.saturating_add-self-inside.result old.closed c.if-self.false c.saturating_add-self-inside.ensures c.if-self.false))

pub returns-in-Ok-clause-inverse : goal.returns-in-Ok-clause-inverse
returns-in-Ok-clause-inverse g c = λ own can.
    let old = c.self.inside in
    let names = c.change_kept.new.set.names in
    let m = subst (λ (x : State). CanChange x c.args.change own) (sym c.self.view_is) can c.if-self.false in
    let same = c.change_kept.ensures.same in
    subst (λ (x : State). Means names c.in-Ok.back (law.inverse_of x.document own)) c.self.view_is
    (subst (λ (x : Compiled). (o : law.Change) → Means x.names c.args.change o → law.Fits (document_in x old.doc) o → Means names c.in-Ok.back (law.inverse_of (document_in x old.doc) o)) c.deref_mut.ensures.value
    (subst (λ (y : Compiled). (o : law.Change) → Means c.deref_mut.result.now.names c.args.change o → law.Fits (document_in c.deref_mut.result.now old.doc) o → Means y.names c.in-Ok.back (law.inverse_of (document_in c.deref_mut.result.now old.doc) o)) (sym same) c.in-Ok.ensures.inverse) own m.0 m.1)

pub returns-in-Ok-clause-spends : goal.returns-in-Ok-clause-spends
returns-in-Ok-clause-spends g c = λ own can.
    let old = c.self.inside in
    let set = old.set.value in
    let new = c.change_kept.new in
    let m = subst (λ (x : State). CanChange x c.args.change own) (sym c.self.view_is) can c.if-self.false in
    let reached = subst (λ (x : Compiled). (o : law.Change) → Means x.names c.args.change o → law.Fits (document_in x old.doc) o → IsReached x old.doc new.doc new.kept o) c.deref_mut.ensures.value c.in-Ok.ensures.done own m.0 m.1 in
    let within = subst (λ (x : Compiled). (o : law.Change) → Means x.names c.args.change o → law.Fits (document_in x old.doc) o → TakesWithin (state_by x old.doc old.kept old.revision old.closed) o c.args.steps.now new.steps) c.deref_mut.ensures.value
    (c.change_kept.ensures.few old.revision old.closed) own m.0 m.1 in
    let same = c.change_kept.ensures.same ∙ c.deref_mut.ensures.value in
    subst (λ (x : State). Counts c.args.steps.now new.steps (change_cost x own (state_by new.set new.doc new.kept c.saturating_add-self-inside.result old.closed))) c.self.view_is
    (subst (λ (y : Compiled). Counts c.args.steps.now new.steps (change_cost (state_by set old.doc old.kept old.revision old.closed) own (state_by y new.doc new.kept c.saturating_add-self-inside.result old.closed))) (sym same)
    (changed-spent set old.doc new.doc old.kept new.kept own reached old.revision old.closed c.saturating_add-self-inside.result old.closed c.args.steps.now new.steps c.saturating_add-self-inside.ensures c.if-self.false within))

-- ---- memory was wanting

pub returns-in-Err-clause-spends : goal.returns-in-Err-clause-spends
returns-in-Err-clause-spends g c = λ own can.
    let old = c.self.inside in
    let new = c.change_kept.new in
    let m = subst (λ (x : State). CanChange x c.args.change own) (sym c.self.view_is) can c.if-self.false in
    let within = subst (λ (x : Compiled). (o : law.Change) → Means x.names c.args.change o → law.Fits (document_in x old.doc) o → TakesWithin (state_by x old.doc old.kept old.revision old.closed) o c.args.steps.now new.steps) c.deref_mut.ensures.value
    (c.change_kept.ensures.few old.revision old.closed) own m.0 m.1 in
    (c.change_kept.ensures.least, subst (λ (x : State). TakesWithin x own c.args.steps.now new.steps) c.self.view_is within)
