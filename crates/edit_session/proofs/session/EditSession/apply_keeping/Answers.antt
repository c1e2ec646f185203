use Rattle.std.proofs.Common.{◌≢◌, Err, rules, subst}
use Rattle.tree_edits.specs.declared.edit.EditError.TheVariants.{Memory}
use Rattle.session_model.specs.declared.session.SessionError.TheVariants.{Refused}
use Rattle.tree_edits.specs.Tests.{edited}
use Rattle.compiled_schema.specs.declared.compiled.Compiled.{Compiled}
use Rattle.session_model.specs.Applying.{Applies, IsEdited}
use Rattle.session_model.specs.Spending.{Counts, BreaksWithin}
use Rattle.session_model.specs.State.{State}
use Rattle.tree_edits.specs.Inverses.{inverse_of}
use Rattle.tree_edits.specs.EditChanges.{change_of}
use Rattle.doc_tree.specs.Changes.{Means}
use Rattle.edit_session.specs.Costs.{edit_cost}
use Rattle.edit_session.specs.Edited.{IsDone, IsLeft}
use Rattle.edit_session.specs.Held.{document_in, state_by}
use Rattle.edit_session.proofs.Applying.{edited-so, spent-so, refused-so, unspent-so}
use Rattle.edit_session.proofs.session.EditSession.apply_keeping.Goals as goal

pub returns-in-Ok-clause-applies : goal.returns-in-Ok-clause-applies
returns-in-Ok-clause-applies g c =
    let done = subst (λ (x : Compiled). IsDone x c.edit_kept.new.set c.self.inside.doc c.edit_kept.new.doc c.edit_kept.new.kept c.args.edit.now) c.deref_mut.ensures.value c.in-Ok.ensures.done in
    subst (λ (x : State). IsEdited x c.args.edit.now (state_by c.edit_kept.new.set c.edit_kept.new.doc c.edit_kept.new.kept c.saturating_add-self-inside.result c.self.inside.closed)) c.self.view_is
    (edited-so c.self.inside.set.value c.edit_kept.new.set c.self.inside.doc c.edit_kept.new.doc c.self.inside.kept c.edit_kept.new.kept c.args.edit.now done c.self.inside.revision c.self.inside.closed
    c.saturating_add-self-inside.result c.self.inside.closed c.if-self.false c.saturating_add-self-inside.ensures c.if-self.false)

pub returns-in-Ok-clause-spends : goal.returns-in-Ok-clause-spends
returns-in-Ok-clause-spends g c =
    let done = subst (λ (x : Compiled). IsDone x c.edit_kept.new.set c.self.inside.doc c.edit_kept.new.doc c.edit_kept.new.kept c.args.edit.now) c.deref_mut.ensures.value c.in-Ok.ensures.done in
    let within = subst (λ (x : Compiled). BreaksWithin edit_cost (state_by x c.self.inside.doc c.self.inside.kept c.self.inside.revision c.self.inside.closed) c.args.edit.now
    (edited (document_in x c.self.inside.doc) c.args.edit.now) c.args.steps.now c.edit_kept.new.steps) c.deref_mut.ensures.value (c.edit_kept.ensures.few c.self.inside.revision c.self.inside.closed) in
    subst (λ (x : State). Counts c.args.steps.now c.edit_kept.new.steps
    (edit_cost x c.args.edit.now (state_by c.edit_kept.new.set c.edit_kept.new.doc c.edit_kept.new.kept c.saturating_add-self-inside.result c.self.inside.closed))) c.self.view_is
    (spent-so c.self.inside.set.value c.edit_kept.new.set c.self.inside.doc c.edit_kept.new.doc c.self.inside.kept c.edit_kept.new.kept c.args.edit.now done c.self.inside.revision c.self.inside.closed
    c.saturating_add-self-inside.result c.self.inside.closed c.args.steps.now c.edit_kept.new.steps c.saturating_add-self-inside.ensures c.if-self.false within)

pub returns-in-Err : goal.returns-in-Err
returns-in-Err g c =
    let refuses : c.in-Err.refusal ≢ Memory = search rules in
    let left = subst (λ (x : Compiled). IsLeft x c.edit_kept.new.set c.self.inside.doc c.edit_kept.new.doc c.self.inside.kept c.edit_kept.new.kept c.args.edit.now c.in-Err.refusal) c.deref_mut.ensures.value
    c.in-Err.ensures.refused in
    let within = subst (λ (x : Compiled). BreaksWithin edit_cost (state_by x c.self.inside.doc c.self.inside.kept c.self.inside.revision c.self.inside.closed) c.args.edit.now
    (edited (document_in x c.self.inside.doc) c.args.edit.now) c.args.steps.now c.edit_kept.new.steps) c.deref_mut.ensures.value (c.edit_kept.ensures.few c.self.inside.revision c.self.inside.closed) in
    record {
      applies =
          subst (λ (x : State). Applies x c.args.edit.now (Err (Refused c.in-Err.refusal)) (state_by c.edit_kept.new.set c.edit_kept.new.doc c.edit_kept.new.kept c.self.inside.revision c.self.inside.closed)) c.self.view_is
          (refused-so c.self.inside.set.value c.edit_kept.new.set c.self.inside.doc c.edit_kept.new.doc c.self.inside.kept c.edit_kept.new.kept c.args.edit.now c.in-Err.refusal left refuses
          c.self.inside.revision c.self.inside.closed c.if-self.false);
      inverse = tt;
      spends =
          unspent-so c.self.inside.set.value c.edit_kept.new.set c.self.inside.doc c.edit_kept.new.doc c.self.inside.kept c.edit_kept.new.kept c.args.edit.now c.in-Err.refusal left refuses
          c.self.inside.revision c.self.inside.closed c.args.steps.now c.edit_kept.new.steps within;
    }

pub returns-in-Ok-clause-inverse : goal.returns-in-Ok-clause-inverse
returns-in-Ok-clause-inverse g c =
    let edit = c.args.edit.now in
    let names = c.edit_kept.new.set.names in
    subst (λ (x : State). Means names c.in-Ok.back (inverse_of x.document (change_of x.document edit))) c.self.view_is
    (subst (λ (x : Compiled). Means names c.in-Ok.back (inverse_of (document_in x c.self.inside.doc) (change_of (document_in x c.self.inside.doc) edit))) c.deref_mut.ensures.value c.in-Ok.ensures.inverse)
