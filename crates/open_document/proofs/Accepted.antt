-- What schema documents come to.
use Rattle.std.specs.Prelude.{◌≡◌, ◌≤◌, ℕ, List, [], Result, Ok, Err, IfOk, OnOk}
use Rattle.std.proofs.Common.{arith, inl, inr, refl, sym, ap, ◌∙◌, subst}
use Rattle.tree_rows.specs.Forest.{Document}
use Rattle.plain_tree.specs.Table.{document_table}
use Rattle.plain_tree.proofs.Tables.{grows}
use Rattle.assessment.specs.Attribution.{SchemaSet}
use Rattle.kept_next.specs.Spaces.{HasSpacesNamed}
use Rattle.kept_next.proofs.Spaces.{spaces-grown}
use Rattle.session_model.specs.State.{State, IsOpened}
use Rattle.compiled_schema.specs.declared.compiled.Compiled.{Compiled}
use Rattle.compiled_schema.specs.Usable.{IsUsable}
use Rattle.schema_compile.specs.Outcomes.{IsOutcome}
use Rattle.schema_set.specs.declared.inputs.SchemaInput.{SchemaInput}
use Rattle.schema_compile.specs.declared.outcome.Outcome.{Outcome}
use Rattle.schema_compile.specs.declared.outcome.Outcome.TheVariants.{Accepted}
use Rattle.told.specs.Outcomes.{told_of}
use Rattle.open_document.specs.Answers.{IsCompiled, IsOpenedBy, verdict_of, work_after}
use Rattle.doc_tree.specs.declared.change.Change.{Change}
use Rattle.std.proofs.lemmas.List.Elements.{All-nil}
use Rattle.edit_history.specs.Logged.{AreNoLater}
use Rattle.edit_history.specs.declared.turn.Turn.{Turn}
use Rattle.edit_history.specs.Log.{Log, log_of}
use Rattle.edit_history.specs.declared.log.Taken.TheVariants.{Nothing}
use Rattle.edit_history.specs.Through as histories
use Rattle.open_document.specs.Held.{begun, state_of, IsLogged}
use Rattle.open_document.specs.State.{Basis, WorkState, working, kept_trees, IsOpen}
use Rattle.open_document.specs.declared.held.OpenDocument.{OpenDocument}
use Rattle.open_document.specs.declared.verdict.SetVerdict.{SetVerdict}

-- documents may be assessed by a set that is accepted
module _ (documents : List SchemaInput) (start : ℕ) where
  pub accepted_usable : (c : Compiled) → IsOutcome documents start (Accepted c) → IsUsable c
  accepted_usable c (inl (fault, is, other)) = grind arith
  accepted_usable c (inr (made, compiled, (unbroken, of, usable, uses))) = usable

-- one of the outcomes of documents is told and worked by
module _ (documents : List SchemaInput) where
  pub told_and_worked : {E : Type 0} (r : Result SetVerdict E) (old new : WorkState) (o : Outcome) → IsOutcome documents 0 o
      → IfOk r (λ told. told ≡ verdict_of (told_of o)) → OnOk r (new ≡ work_after old documents (told_of o)) → IfOk r (λ told. IsCompiled documents old told new)
  told_and_worked (Ok told) old new o is told_is work_is = record {
    outcome = told_of o;
    is_outcome = record { rules_are = refl; outcome = o; is_outcome = is; told_is = refl };
    told_is = told_is;
    work_is = work_is;
  }
  told_and_worked (Err e) old new o is told_is work_is = tt

-- a document that was opened is open
pub opened_open : {T E : Type 0} (r : Result T E) (most : ℕ) (basis : Basis) (d : Document) (w : WorkState) → OnOk r (IsOpenedBy most basis d w) → OnOk r (IsOpen w)
opened_open (Ok x) most basis d w h =
    subst IsOpen (sym (h.work_is ∙ ap working h.document_is)) refl
opened_open (Err e) most basis d w h = tt

-- a session that was opened is that of the document
pub opened_by : {T E : Type 0} (r : Result T E) (most : ℕ) (basis : Basis) (d : Document) (w : WorkState) (session : State) → IsOpened basis.set d session
    → OnOk r (w ≡ working (begun session basis.documents most)) → OnOk r (IsOpenedBy most basis d w)
opened_by (Ok x) most basis d w session is h = record {
  document = begun session basis.documents most;
  work_is = h;
  found_is = is.found_is;
  document_is = ap (λ (x : State). begun x basis.documents most) is.new_is;
}
opened_by (Err e) most basis d w session is h = tt

-- ---- a document that was just opened, whose log has no steps

pub begun_logged : (x : OpenDocument) → x.log ≡ log_of kept_trees [] [] Nothing → x.turns.turns ≡ [] → x.session.revision ≡ 0 → HasSpacesNamed x.session.set → IsLogged x
begun_logged x is none first spaced = record {
  depth = ap (λ (l : Log Change). l.depth) is;
  logged = subst (histories.IsLogged x.session.set.names x.session.document) (sym is) (record { leads = record { past = tt; future = tt }; answered = refl });
  later = subst (λ (ts : List Turn). AreNoLater ts x.session.revision) (sym none) (All-nil (λ (t : Turn). t.revision ≤ x.session.revision));
  within = grind (arith, first);
  spaced = spaced;
}

-- a session that was opened has the namespaces that the wildcards of its set name
pub opened_spaced : (set : SchemaSet) (d : Document) (session : State) → IsOpened set d session → HasSpacesNamed set → HasSpacesNamed session.set
opened_spaced set d session is spaced =
    subst HasSpacesNamed (sym (ap (λ (s : State). s.set) is.new_is)) (spaces-grown set (document_table set.names d.forest) (grows set.names d.forest) spaced)

state_begun : (x : OpenDocument) → x.log ≡ log_of kept_trees [] [] Nothing → x.turns.turns ≡ [] → state_of x ≡ begun x.session x.documents.items x.most
state_begun x is none = λ i. record {
  session = x.session;
  documents = x.documents.items;
  most = x.most;
  history = (ap (λ (l : Log Change). (state_of (record x { log = l })).history) is) i;
  log = (ap (λ (l : Log Change). (state_of (record x { log = l })).log) is) i;
  turns = none i;
}

pub worked_begun : {T E : Type 0} (r : Result T E) (w : WorkState) (x : OpenDocument) → x.log ≡ log_of kept_trees [] [] Nothing → x.turns.turns ≡ []
    → OnOk r (w ≡ working (state_of x)) → OnOk r (w ≡ working (begun x.session x.documents.items x.most))
worked_begun (Ok y) w x is none h = h ∙ ap working (state_begun x is none)
worked_begun (Err e) w x is none h = tt
