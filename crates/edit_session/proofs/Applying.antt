-- A session that was opened, and one that has made an edit.
use Rattle.std.proofs.Common.{◌≡◌, ◌≢◌, ℕ, Bool, Result, Err, sym, subst}
use Rattle.std.specs.Prelude.{false}
use Rattle.tree_rows.specs.Forest.{Document}
use Rattle.tree_edits.specs.Tests.{edited}
use Rattle.tree_edits.specs.declared.edit.Edit.{Edit}
use Rattle.tree_edits.specs.declared.edit.EditError.{EditError}
use Rattle.tree_edits.specs.declared.edit.EditError.TheVariants.{Memory}
use Rattle.assessment.specs.Attribution.{SchemaSet}
use Rattle.compiled_schema.specs.Usable.{set_of}
use Rattle.compiled_schema.specs.declared.compiled.Compiled.{Compiled}
use Rattle.what_is_found.specs.IsFound.{IsFound}
use Rattle.session_model.specs.Applying.{Applies, IsEdited}
use Rattle.session_model.specs.Spending.{Counts, BreaksWithin}
use Rattle.session_model.specs.declared.session.SessionError.TheVariants.{Refused}
use Rattle.session_model.specs.State.{State, IsOpened, with_names, next_revision, after_edit}
use Rattle.doc_nodes.specs.Nodes.{Nodes}
use Rattle.doc_changes.specs.Stands.{StandsFor}
use Rattle.doc_changes.proofs.Levels.{document_is}
use Rattle.kept_inverses.specs.from_kept_state.KeptState.{KeptState}
use Rattle.edit_session.specs.Costs.{edit_cost}
use Rattle.edit_session.specs.Edited.{IsDone, IsLeft}
use Rattle.edit_session.specs.Held.{document_in, found_by, Stands, IsPresent, state_by}
use Rattle.edit_session.specs.Reopened.{IsReopened}
use Rattle.edit_session.proofs.Standing.{stands-now, found-now}

pub opened-so : (set : SchemaSet) (new : Compiled) (ns : Nodes) (k : KeptState) (d : Document) → StandsFor new.names ns d → IsPresent new ns k → set_of new ≡ with_names set d.forest → IsOpened set d (state_by new ns k 0 false)
opened-so set new ns k d stands present named =
    let is = document_is new.names ns d stands in
    record {
      found_is = subst (λ (s : SchemaSet). IsFound s d (found_by new ns k)) named (subst (λ (x : Document). IsFound (set_of new) x (found_by new ns k)) is (found-now new ns k present));
      new_is = λ i. record { set = named i; document = is i; found = found_by new ns k; revision = 0; closed = false };
    }

module _ (old new : Compiled) (ns ms : Nodes) (k l : KeptState) (edit : Edit) (done : IsDone old new ns ms l edit) (revision : ℕ) (closed : Bool) where
  abbrev before : State
  before = state_by old ns k revision closed

  found-so : IsFound (with_names (set_of old) (document_in new ms).forest) (document_in new ms) (found_by new ms l)
  found-so = subst (λ (s : SchemaSet). IsFound s (document_in new ms) (found_by new ms l)) done.set_is (found-now new ms l done.present)

  after-is : (next : ℕ) (shut : Bool) → next ≡ next_revision revision → shut ≡ false → state_by new ms l next shut ≡ after_edit before (document_in new ms) (found_by new ms l)
  after-is next shut is open_now = λ i. record { set = done.set_is i; document = document_in new ms; found = found_by new ms l; revision = is i; closed = open_now i }

  pub edited-so : (next : ℕ) (shut : Bool) → closed ≡ false → next ≡ next_revision revision → shut ≡ false → IsEdited before edit (state_by new ms l next shut)
  edited-so next shut was is open_now = record { open_before = was; document_is = done.document_is; found_is = found-so; new_is = after-is next shut is open_now }

  -- it counts no more than what is found then allows
  pub spent-so : (next : ℕ) (shut : Bool) (first last : ℕ) → next ≡ next_revision revision → shut ≡ false → BreaksWithin edit_cost before edit (edited (document_in old ns) edit) first last →
      Counts first last (edit_cost before edit (state_by new ms l next shut))
  spent-so next shut first last is open_now within =
      let made = subst (λ (r : Result Document EditError). BreaksWithin edit_cost before edit r first last) done.document_is within in
      subst (λ (x : State). Counts first last (edit_cost before edit x)) (sym (after-is next shut is open_now)) (made (found_by new ms l) found-so)

-- ---- one that has refused an edit

module _ (old new : Compiled) (ns ms : Nodes) (k l : KeptState) (edit : Edit) (error : EditError) (left : IsLeft old new ns ms k l edit error) (refuses : error ≢ Memory) (revision : ℕ) (closed : Bool) where
  abbrev unedited : State
  unedited = state_by old ns k revision closed

  pub refused-so : closed ≡ false → Applies unedited edit (Err (Refused error)) (state_by new ms l revision closed)
  refused-so open_now = (
    open_now,
    left.refused.why refuses,
    refuses,
    λ i. state_by (left.refused.same refuses i) (left.nodes refuses i) (left.kept refuses i) revision closed,
  )

  pub unspent-so : (first last : ℕ) → BreaksWithin edit_cost unedited edit (edited (document_in old ns) edit) first last → last ≡ first
  unspent-so first last within = subst (λ (r : Result Document EditError). BreaksWithin edit_cost unedited edit r first last) (left.refused.why refuses) within

-- ---- one that was swapped to another set

module _ (old : Compiled) (ns : Nodes) (k : KeptState) (stands : Stands old ns) (revision : ℕ) (closed : Bool) (set : SchemaSet) (new : Compiled) (ms : Nodes) (l : KeptState) where
  -- the document stays
  pub reopened-so : (next : ℕ) (shut : Bool) → closed ≡ false → next ≡ next_revision revision → shut ≡ false
      → ((d : Document) → StandsFor old.names ns d → StandsFor new.names ms d) → ((d : Document) → StandsFor old.names ns d → set_of new ≡ with_names set d.forest) → IsPresent new ms l
      → IsReopened (state_by old ns k revision closed) set (state_by new ms l next shut)
  reopened-so next shut was is open_now stands_then named present =
      let d = document_in old ns in
      let same = document_is new.names ms d (stands_then d (stands-now old ns stands)) in
      let set_is = named d (stands-now old ns stands) in
      record {
        open_before = was;
        found_is = subst (λ (s : SchemaSet). IsFound s d (found_by new ms l)) set_is (subst (λ (x : Document). IsFound (set_of new) x (found_by new ms l)) same (found-now new ms l present));
        new_is = λ i. record { set = set_is i; document = same i; found = found_by new ms l; revision = is i; closed = open_now i };
      }

  pub stands-reopened : ((d : Document) → StandsFor old.names ns d → StandsFor new.names ms d) → Stands new ms
  stands-reopened stands_then = (stands.0, stands_then stands.0 stands.1)
