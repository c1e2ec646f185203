-- The history of a document that is open, behind an edit and behind a step.
use Rattle.std.proofs.Common.{◌≡◌, ◌≤◌, ℕ, [], ◌∷◌, ◌++◌, true, false, Option, Some, None, Ok, Err, refl, sym, ap, ◌∙◌, subst}
use Rattle.std.proofs.lemmas.Bool.{true≢false}
use Rattle.xs_names.specs.Names.{NameTable, Grown}
use Rattle.tree_rows.specs.Forest.{Forest, Document}
use Rattle.tree_edits.specs.Edits.{can_be_made}
use Rattle.tree_edits.specs.declared.edit.Edit.{Edit}
use Rattle.plain_tree.specs.Table.{document_table}
use Rattle.plain_tree.proofs.Tables.{grows}
use Rattle.tree_edits.specs.Inverses.{inverse_of}
use Rattle.tree_edits.specs.Inverses as law
use Rattle.tree_edits.specs.EditChanges.{change_of}
use Rattle.doc_tree.specs.Changes.{Means}
use Rattle.doc_tree.specs.Leads.{document}
use Rattle.doc_tree.specs.declared.change.Change.{Change}
use Rattle.edit_history.specs.History.{History, edited}
use Rattle.edit_history.specs.Log.{Log, noted}
use Rattle.edit_history.specs.Meant.{meant_log}
use Rattle.edit_history.specs.Through.{history_through, Remembers, StepsTo, Gives}
use Rattle.edit_history.specs.Through as histories
use Rattle.edit_history.proofs.Remembering.{edit_remembered}
use Rattle.what_is_found.specs.IsFound.{IsFound}
use Rattle.session_model.specs.Applying.{IsEdited, Applies}
use Rattle.session_model.specs.Spending.{Counts}
use Rattle.session_model.specs.State.{State, after_edit, next_revision}
use Rattle.session_model.specs.declared.session.SessionError.{SessionError}
use Rattle.session_model.specs.declared.session.SessionError.TheVariants as errors
use Rattle.kept_next.specs.Spaces.{HasSpacesNamed}
use Rattle.kept_next.proofs.Spaces.{spaces-grown}
use Rattle.edit_session.specs.Changed.{after_change, IsChanged, TakesWithin}
use Rattle.edit_session.specs.Costs.{change_cost}
use Rattle.open_document.specs.Held.{state_of, IsLogged}
use Rattle.open_document.specs.State.{OpenState, kept_trees}
use Rattle.open_document.specs.Stepping.{IsStepped, Makes}
use Rattle.open_document.specs.Steps.{Step, step_by, with_turn, with_edit}
use Rattle.open_document.specs.Touches.{touched}
use Rattle.open_document.proofs.Noting.{noted_as, turns_behind, within_behind}
use Rattle.edit_history.specs.Logged.{Logged}
use Rattle.edit_history.specs.Turns.{turn}
use Rattle.edit_history.specs.declared.touched.Touched.{Touched}
use Rattle.open_document.specs.declared.held.OpenDocument.{OpenDocument}

module _ (x : OpenDocument) (session : State) (log : Log Change) (turns : Logged) where
  -- the document with this session, this log and these turns
  abbrev pub moved : OpenDocument
  moved = record x { session = session; log = log; turns = turns }

  -- what is remembered of it
  module _ (h : History Forest) (l : Log law.Change) (noted_as : Log Change) (is : log ≡ noted_as) (r : Remembers session.set.names session.document noted_as h l) where
    pub history_behind : (state_of moved).history ≡ h
    history_behind = ap (λ (k : Log Change). history_through session.document (meant_log session.set.names k)) is ∙ r.history_is

    pub log_behind : (state_of moved).log ≡ l
    log_behind = ap (meant_log session.set.names) is ∙ r.log_is

    pub logged_behind : (author : ℕ) (keys : Touched) → IsLogged x → session.revision ≡ next_revision x.session.revision
        → turns.turns ≡ with_turn (state_of x) author keys → noted_as.depth ≡ kept_trees → HasSpacesNamed session.set → IsLogged moved
    logged_behind author keys logged next noted deep spaced = record {
      depth = ap (λ (k : Log Change). k.depth) is ∙ deep;
      logged = subst (histories.IsLogged session.set.names session.document) (sym is) r.logged;
      later = turns_behind x logged session turns author keys next noted;
      within = within_behind x logged session turns author keys next;
      spaced = spaced;
    }

  -- behind an edit
  module _ (author : ℕ) (edit : Edit) (back : Change) (logged : IsLogged x) (is : log ≡ noted x.log back)
      (r : Remembers session.set.names session.document (noted x.log back) (edited x.log.depth (state_of x).history session.document.forest)
      (noted (state_of x).log (inverse_of x.session.document (change_of x.session.document edit)))) where
    pub edit_behind : session ≡ after_edit x.session session.document session.found
        → turns.turns ≡ with_turn (state_of x) author (touched edit x.session.document.forest)
        → state_of moved ≡ with_edit (state_of x) author edit session.document session.found
    edit_behind new_is turned = λ i. record {
      session = new_is i;
      documents = x.documents.items;
      most = x.most;
      history = (history_behind _ _ (noted x.log back) is r ∙ ap (λ (n : ℕ). edited n (state_of x).history session.document.forest) logged.depth) i;
      log = log_behind _ _ (noted x.log back) is r i;
      turns = turned i;
    }

    pub edit_logged : session ≡ after_edit x.session session.document session.found
        → turns.turns ≡ with_turn (state_of x) author (touched edit x.session.document.forest) → IsLogged moved
    edit_logged new_is turned =
        logged_behind _ _ (noted x.log back) is r author (touched edit x.session.document.forest) logged (ap (λ (s : State). s.revision) new_is) turned logged.depth
        (subst HasSpacesNamed (sym (ap (λ (s : State). s.set) new_is))
        (spaces-grown x.session.set (document_table x.session.set.names session.document.forest) (grows x.session.set.names session.document.forest) logged.spaced))

  -- an edit that was made is remembered
  pub edit_noted : (edit : Edit) (back : Change) → IsFound x.session.set x.session.document x.session.found → can_be_made edit ≡ true → IsLogged x → IsEdited x.session edit session
      → Means session.set.names back (inverse_of x.session.document (change_of x.session.document edit))
      → Remembers session.set.names session.document (noted x.log back) (edited x.log.depth (state_of x).history session.document.forest)
      (noted (state_of x).log (inverse_of x.session.document (change_of x.session.document edit)))
  edit_noted edit back found can logged made means =
      let grown : Grown x.session.set.names session.set.names =
      subst (Grown x.session.set.names) (sym (ap (λ (s : State). s.set.names) made.new_is)) (grows x.session.set.names session.document.forest) in
      edit_remembered x.session.set.names session.set.names x.log x.session.document session.document edit back found.sound grown can found.tree logged.logged made.document_is means

-- a refused edit, or none, leaves the log as it is
pub left_logged : (x : OpenDocument) (edit : Edit) (e : SessionError) (session : State) → x.session.closed ≡ false → Applies x.session edit (Err e) session → IsLogged x
    → session.closed ≡ false → IsLogged (record x { session = session })
left_logged x edit (errors.Refused e) session live applies logged lives = subst (λ (s : State). IsLogged (record x { session = s })) (sym applies.3) logged
left_logged x edit errors.Memory session live applies logged lives = absurd (true≢false (sym applies.1 ∙ lives))
left_logged x edit errors.Closed session live applies logged lives = absurd (true≢false (sym applies.0 ∙ live))

pub left_same : (x y : OpenDocument) → y ≡ record x { session = y.session } → y.session ≡ x.session → state_of y ≡ state_of x
left_same x y alone same = ap state_of (alone ∙ ap (λ (s : State). record x { session = s }) same)

pub same_logged : (x : OpenDocument) (log : Log Change) → log ≡ x.log → IsLogged x → IsLogged (record x { log = log })
same_logged x log is logged = subst (λ (l : Log Change). IsLogged (record x { log = l })) (sym is) logged

-- ---- a step

-- what a log of a document gives, with the history that is next to the present tree, and the change that is meant
module _ (x : OpenDocument) (answered : Change → Log Change) (answered_by : law.Change → Log law.Change) (keys : Forest → law.Change → Touched) (step : Option Change)
    (next : Option (History Forest)) (own : Option law.Change) (gives : Gives x.session.set.names x.session.document answered answered_by step next own) where
  abbrev pub gave : Option Step
  gave = step_by next own (λ c. answered_by (inverse_of x.session.document c)) keys

  -- there is none
  pub none_given : (E : Type 0) (log : Log Change) (n : ℕ) → step ≡ None → log ≡ x.log → Makes {E = E} (state_of x) gave (Ok false) (state_of (record x { log = log })) n n
  none_given E log n is same =
      let none = subst (λ (s : Option Change). Gives x.session.set.names x.session.document answered answered_by s next own) is gives in
      subst (λ (g : Option Step). Makes {E = E} (state_of x) g (Ok false) (state_of (record x { log = log })) n n)
      (sym (λ i. step_by (none.0 i) (none.1 i) (λ c. answered_by (inverse_of x.session.document c)) keys))
      (ap (λ (l : Log Change). state_of (record x { log = l })) same, refl)

  module _ (it : Change) (is : step ≡ Some it) where
    given : (h : History Forest) × (c : law.Change) × (next ≡ Some h) × (own ≡ Some c) × StepsTo x.session.set.names x.session.document answered answered_by it h c
    given = subst (λ (s : Option Change). Gives x.session.set.names x.session.document answered answered_by s next own) is gives

    -- it can be made
    pub can_make : (c : law.Change) × Means x.session.set.names it c × law.Fits x.session.document c
    can_make = (given.1, given.4.means, given.4.fits)

    abbrev the_step : Step
    the_step = record { history = given.0; change = given.1; log = answered_by (inverse_of x.session.document given.1); keys = keys given.0.present given.1 }

    gave_is : gave ≡ Some the_step
    gave_is = λ i. step_by (given.2 i) (given.3 i) (λ c. answered_by (inverse_of x.session.document c)) keys

    abbrev behind : Document
    behind = document given.0.present x.session.document.next_free

    -- it was made
    module _ (session : State) (log : Log Change) (turns : Logged) (back : Change) (noted_is : log ≡ answered back) (made : IsChanged x.session given.1 session)
        (means : Means session.set.names back (inverse_of x.session.document given.1)) (turned : turns.turns ≡ with_turn (state_of x) 0 (keys given.0.present given.1)) where
      session_is : session ≡ after_change x.session behind session.found
      session_is = made.new_is ∙ ap (λ (e : Document). after_change x.session e session.found) given.4.makes

      step_remembered : Remembers session.set.names session.document (answered back) given.0 (answered_by (inverse_of x.session.document given.1))
      step_remembered =
          let same : session.set.names ≡ x.session.set.names = ap (λ (s : State). s.set.names) session_is in
          subst (λ (s : State). Remembers s.set.names s.document (answered back) given.0 (answered_by (inverse_of x.session.document given.1))) (sym session_is)
          (given.4.remembers back (subst (λ (t : NameTable). Means t back (inverse_of x.session.document given.1)) same means))

      stepped : (n m : ℕ) → Counts n m (change_cost x.session given.1 session) → IsStepped (state_of x) the_step (state_of (moved x session log turns)) n m
      stepped n m counts = record {
        found_is = subst (λ (e : Document). IsFound x.session.set e session.found) given.4.makes made.found_is;
        new_is = λ i. record {
          session = session_is i;
          documents = x.documents.items;
          most = x.most;
          history = history_behind x session log turns given.0 _ (answered back) noted_is step_remembered i;
          log = log_behind x session log turns given.0 _ (answered back) noted_is step_remembered i;
          turns = turned i;
        };
        counts = counts;
      }

      step_logged : IsLogged x → (answered back).depth ≡ kept_trees → IsLogged (moved x session log turns)
      step_logged logged deep =
          logged_behind x session log turns given.0 _ (answered back) noted_is step_remembered 0 (keys given.0.present given.1) logged
          (ap (λ (s : State). s.revision) session_is) turned deep (subst HasSpacesNamed (sym (ap (λ (s : State). s.set) session_is)) logged.spaced)

    module _ (session : State) (log : Log Change) (turns : Logged) (back : Change) (noted_is : log ≡ answered back)
        (made : (c : law.Change) → Means x.session.set.names it c → law.Fits x.session.document c → IsChanged x.session c session)
        (means : (c : law.Change) → Means x.session.set.names it c → law.Fits x.session.document c → Means session.set.names back (inverse_of x.session.document c))
        (logged : IsLogged x) (revision : ℕ) (own_keys : Touched) (revision_is : revision ≡ session.revision) (turn_noted : turns.turns ≡ x.turns.turns ++ turn revision 0 own_keys ∷ [])
        (keyed : (h : History Forest) (c : law.Change) → StepsTo x.session.set.names x.session.document answered answered_by it h c → session.document.forest ≡ h.present
        → Means session.set.names back (inverse_of x.session.document c) → own_keys ≡ keys h.present c) where
      own_made : IsChanged x.session given.1 session
      own_made = made given.1 given.4.means given.4.fits

      own_means : Means session.set.names back (inverse_of x.session.document given.1)
      own_means = means given.1 given.4.means given.4.fits

      there : session.document.forest ≡ given.0.present
      there = ap (λ (s : State). s.document.forest) own_made.new_is ∙ ap (λ (e : Document). e.forest) given.4.makes

      turned : turns.turns ≡ with_turn (state_of x) 0 (keys given.0.present given.1)
      turned =
          noted_as x logged session turns 0 (keys given.0.present given.1) (ap (λ (s : State). s.revision) own_made.new_is) revision own_keys revision_is
          (keyed given.0 given.1 given.4 there own_means) turn_noted

      pub step_made : (E : Type 0) (n m : ℕ) → ((c : law.Change) → Means x.session.set.names it c → law.Fits x.session.document c → Counts n m (change_cost x.session c session))
          → Makes {E = E} (state_of x) gave (Ok true) (state_of (moved x session log turns)) n m
      step_made E n m counts =
          subst (λ (g : Option Step). Makes {E = E} (state_of x) g (Ok true) (state_of (moved x session log turns)) n m) (sym gave_is)
          (stepped session log turns back noted_is own_made own_means turned n m (counts given.1 given.4.means given.4.fits))

      pub logged_then : (answered back).depth ≡ kept_trees → IsLogged (moved x session log turns)
      logged_then deep = step_logged session log turns back noted_is own_made own_means turned logged deep

    -- the session is open then, and its revision is the next
    module _ (session : State) (made : (c : law.Change) → Means x.session.set.names it c → law.Fits x.session.document c → IsChanged x.session c session) where
      pub open_then : session.closed ≡ false
      open_then = ap (λ (s : State). s.closed) (made given.1 given.4.means given.4.fits).new_is

      pub next_then : session.revision ≡ next_revision x.session.revision
      next_then = ap (λ (s : State). s.revision) (made given.1 given.4.means given.4.fits).new_is

    -- memory was wanting for it
    pub step_broken : (E : Type 0) (why : E) (new : OpenState) (n m : ℕ)
        → ((c : law.Change) → Means x.session.set.names it c → law.Fits x.session.document c → (n ≤ m) × TakesWithin x.session c n m) → Makes (state_of x) gave (Err why) new n m
    step_broken E why new n m within =
        let b = within given.1 given.4.means given.4.fits in
        subst (λ (g : Option Step). Makes (state_of x) g (Err why) new n m) (sym gave_is)
        (record {
          later = b.0;
          within = λ found is.
              subst (λ (e : Document). Counts n m (change_cost x.session given.1 (after_change x.session e found))) given.4.makes
              (b.1 found (subst (λ (e : Document). IsFound x.session.set e found) (sym given.4.makes) is));
        })
