-- What is remembered of a history, along the replies to lines.
use Rattle.std.proofs.Common.{◌≡◌, ◌⊎◌, inl, inr, ℕ, zero, suc, ◌-◌, ◌^◌, ◌≤◌, ◌<◌, List, [], ◌∷◌, ◌++◌, map, length, Bool, true, false, ◌==◌, Option, Some, None, Ok, refl, sym, ap, ◌∙◌, subst, arith}
use Rattle.std.specs.Prelude.{All, slice_get, unwrap_or}
use Rattle.std.specs.Option.{option_map}
use Rattle.std.proofs.lemmas.Bool.{eqb-true, eq-eqb, false≢true}
use Rattle.std.proofs.lemmas.List.{map_push}
use Rattle.std.proofs.lemmas.List.Elements.{All-nil, All-cons, All-head, All-tail, All-push, All-drop, All-map, All-weaker}
use Rattle.std.proofs.lemmas.Option.{none-some, same_Some}
use Rattle.circular_buffer.specs.Buffer.{last_item, keep_last}
use Rattle.tree_rows.specs.Forest.{Forest, Document}
use Rattle.tree_rows.specs.Whole.{IsTree}
use Rattle.tree_edits.specs.Edits.{can_be_made}
use Rattle.tree_edits.specs.Tests.{first_refusal, tests_of, edited, made}
use Rattle.tree_edits.specs.declared.edit.Edit.{Edit}
use Rattle.tree_edits.specs.declared.edit.Edit.TheVariants as edits
use Rattle.tree_edits.specs.Inverses.{Change, inverse_of}
use Rattle.tree_edits.specs.EditChanges.{change_of}
use Rattle.tree_edits.proofs.Edited.{made_ok}
use Rattle.assessment.specs.Assessment.{Entry as Found}
use Rattle.assessment.specs.Attribution.{SchemaSet}
use Rattle.what_is_found.specs.IsFound.{IsFound}
use Rattle.session_model.specs.State.{with_names, next_revision}
use Rattle.edit_history.specs.declared.touched.Touched.{Touched}
use Rattle.edit_history.specs.History.{History, history_of, undone, redone}
use Rattle.edit_history.specs.History as histories
use Rattle.edit_history.specs.Log.{Log, log_of, cleared, noted, with_undo_taken, with_undo_answered, with_redo_taken, with_redo_answered}
use Rattle.edit_history.specs.declared.log.Taken.TheVariants.{Nothing}
use Rattle.xsv_run.specs.from_open_document.State.{OpenState, kept_trees}
use Rattle.xsv_run.specs.from_open_document.Steps.{Step, step_by, undo_of, redo_of, document_behind, with_turn, with_edit, with_step, with_swap, touched_undone, touched_redone}
use Rattle.xsv_run.specs.from_open_document.Touches.{touched, touches}
use Rattle.told.specs.Told.{Said}
use Rattle.xsv_run.specs.Complete.{IsStepReply}
use Rattle.turn_laws.specs.Lists.{Child, list_at}
use Rattle.turn_laws.specs.Turned.{IsNoTurn, IsStepTurn}
use Rattle.turn_laws.proofs.Changing.{inverse_same, LeavesList, IsUndoOf, edit_leaves, edit_undone_by}
use Rattle.turn_laws.proofs.Ends.{cut_end, last_of, but_last, kept_more}
use Rattle.turn_laws.proofs.Lists.{IsListed, listed_below}
use Rattle.turn_laws.proofs.Tracing.{Side, Entry, tree_of, keys_of, change_of_entry, turned, IsBack, IsOn, AreBack, AreOn, Holds, AllHold, back_push, back_drop, back_pop, undone_on, redone_back, side_with, entry_with, all_with, keys_with, changes_with, trees_with}

-- ---- numbers

-- the next free number of a document does not go back by an edit
pub free_later : (d e : Document) (edit : Edit) → edited d edit ≡ Ok e → d.next_free ≤ e.next_free
free_later d e edit h =
    let is = (made_ok (first_refusal (tests_of d edit)) (made d edit) e h).1 in
    let own = made_later edit in
    let same = ap (λ (x : Document). x.next_free) is in
    omega (arith, own, same)
  where
    made_later : (it : Edit) → d.next_free ≤ (made d it).next_free
    made_later (edits.Insert parent place its) = omega arith
    made_later (edits.AddText parent place chars) = omega arith
    made_later (edits.SetText key chars) = omega arith
    made_later (edits.Remove key) = omega arith
    made_later (edits.Rename key name) = omega arith
    made_later (edits.SetAttr key name value) = omega arith
    made_later (edits.UnsetAttr key name) = omega arith

pub revision_within : (n : ℕ) → next_revision n ≤ 2 ^ 64 - 1
revision_within n = grind arith

pub revision_later : (n : ℕ) → n ≤ 2 ^ 64 - 1 → n ≤ next_revision n
revision_later n h = grind arith

-- whether a number is this one, and whether it is below another
pub is_or : (o : Option ℕ) (n : ℕ) → (o ≡ Some n) ⊎ (o ≡ Some n → ⊥)
is_or None n = inr (λ e. none-some n e)
is_or (Some m) n = by (m == n) refl
  where
    by : (b : Bool) → (m == n) ≡ b → (Some m ≡ Some n) ⊎ (Some m ≡ Some n → ⊥)
    by true e = inl (ap (λ (k : ℕ). Some k) (eqb-true m n e))
    by false e = inr (λ same. false≢true (sym e ∙ eq-eqb m n (same_Some m n same)))

below_or : (n m : ℕ) → (n < m) ⊎ (m ≤ n)
below_or n zero = inr (omega arith)
below_or zero (suc m) = inl (omega arith)
below_or (suc n) (suc m) = elim (below_or n m) [
  | inl h ↦ inl (omega (arith, h))
  | inr h ↦ inr (omega (arith, h))
]

abbrev pub here : OpenState → List Child → Side
here s list = record { tree = s.session.document.forest; list = list }

all_init : {X : Type 0} (P : X → Type 0) (xs : List X) (x : X) → All P (xs ++ x ∷ []) → All P xs × P x
all_init P [] x h = (All-nil P, All-head P x [] h)
all_init P (y ∷ xs) x h =
    let rest = all_init P xs x (All-tail P y (xs ++ x ∷ []) h) in
    (All-cons P y xs (All-head P y (xs ++ x ∷ []) h) rest.0, rest.1)

module _ (parent : ℕ) where
  -- each step with what its edit touched, and the list of the element by each tree
  pub record IsTraced (keys : Log Touched) (s : OpenState) : Type 0 where
    pub past : List Entry
    pub future : List Entry
    pub list : List Child
    pub back : AreBack parent past (here s list)
    pub on : AreOn parent future (here s list)
    pub past_holds : AllHold parent s.session.document.next_free past
    pub future_holds : AllHold parent s.session.document.next_free future
    pub now : Holds parent s.session.document.next_free (here s list)
    pub keys_is : keys ≡ log_of kept_trees (map keys_of past) (map keys_of future) Nothing
    pub log_is : s.log ≡ log_of kept_trees (map change_of_entry past) (map change_of_entry future) Nothing
    pub history_is : s.history ≡ history_of (map tree_of past) s.session.document.forest (map tree_of future)
    pub tree : IsTree s.session.document
    pub within : s.session.revision ≤ 2 ^ 64 - 1

  -- a turn that touched this: the list of an element that is not new is another only where it was touched, and then it is that of the tree
  pub record IsTurnTaken (s next : OpenState) (old new : List Child) : Type 0 where
    pub author : ℕ
    pub keys : Touched
    pub turns_are : next.turns ≡ with_turn s author keys
    pub revision_is : next.session.revision ≡ next_revision s.session.revision
    pub same : (keys.list ≡ Some parent → ⊥) → parent < s.session.document.next_free → new ≡ old
    pub there : keys.list ≡ Some parent → IsListed parent s.session.document.forest × IsListed parent next.session.document.forest

  pub record IsMoved (s next : OpenState) (old new : List Child) : Type 0 where
    pub free : s.session.document.next_free ≤ next.session.document.next_free
    pub later : s.session.revision ≤ next.session.revision
    pub by : ((next.turns ≡ s.turns) × (new ≡ old)) ⊎ IsTurnTaken s next old new

  -- what is remembered behind a reply
  pub record Traced (keys : Log Touched) (s : OpenState) (list : List Child) (next : OpenState) (Turn : Log Touched → Type 0) : Type 0 where
    pub behind : Log Touched
    pub turn : Turn behind
    pub traced : IsTraced behind next
    pub moved : IsMoved s next list traced.list

  -- nothing has changed
  pub stays_traced : (keys : Log Touched) (s next : OpenState) (it : IsTraced keys s) → next ≡ s → Traced keys s it.list next (λ (behind : Log Touched). IsNoTurn s keys next behind)
  stays_traced keys s next it is =
      subst (λ (x : OpenState). Traced keys s it.list x (λ (behind : Log Touched). IsNoTurn s keys x behind)) (sym is) (record {
        behind = keys;
        turn = (refl, refl);
        traced = it;
        moved = record { free = omega arith; later = omega arith; by = inl (refl, refl) };
      })

  -- ---- an edit

  module _ (keys : Log Touched) (s : OpenState) (it : IsTraced keys s) (author : ℕ) (edit : Edit) (d : Document) (found : List Found) (can : can_be_made edit ≡ true)
      (is : edited s.session.document edit ≡ Ok d) (right : IsFound (with_names s.session.set d.forest) d found) where
    abbrev next : OpenState
    next = with_edit s author edit d found

    abbrev own : Touched
    own = touched edit s.session.document.forest

    abbrev undo : Change
    undo = inverse_of s.session.document (change_of s.session.document edit)

    abbrev entry : List Child → Entry
    entry list = record { keys = own; change = undo; side = here s list }

    abbrev free : ℕ
    free = d.next_free

    module _ (past : List Entry) (old new : List Child) (back : AreBack parent past (here s old)) (keys_are : map keys_of past ≡ map keys_of it.past)
        (changes_are : map change_of_entry past ≡ map change_of_entry it.past) (trees_are : map tree_of past ≡ map tree_of it.past) (holds : AllHold parent free past)
        (here_holds : Holds parent free (here s old)) (leads : IsBack parent (entry old) (here next new)) (now : Holds parent free (here next new)) where
      edited_traced : IsTraced (noted keys own) next
      edited_traced = record {
        past = keep_last kept_trees (past ++ entry old ∷ []);
        future = [];
        list = new;
        back = back_drop parent (length (past ++ entry old ∷ []) - kept_trees) (past ++ entry old ∷ []) (here next new) (back_push parent past (entry old) (here next new) back leads);
        on = tt;
        past_holds = All-drop (λ (e : Entry). Holds parent free e.side) (length (past ++ entry old ∷ []) - kept_trees) (past ++ entry old ∷ [])
            (All-push (λ (e : Entry). Holds parent free e.side) past (entry old) holds here_holds);
        future_holds = All-nil (λ (e : Entry). Holds parent free e.side);
        now = now;
        keys_is = ap (λ (l : Log Touched). noted l own) it.keys_is
            ∙ ap (λ (l : List Touched). log_of kept_trees l [] Nothing) (ap (λ (l : List Touched). keep_last kept_trees (l ++ own ∷ [])) (sym keys_are) ∙ kept_more keys_of kept_trees past (entry old));
        log_is = ap (λ (l : Log Change). noted l undo) it.log_is
            ∙ ap (λ (l : List Change). log_of kept_trees l [] Nothing)
            (ap (λ (l : List Change). keep_last kept_trees (l ++ undo ∷ [])) (sym changes_are) ∙ kept_more change_of_entry kept_trees past (entry old));
        history_is = ap (λ (h : History Forest). histories.edited kept_trees h d.forest) it.history_is
            ∙ ap (λ (l : List Forest). history_of l d.forest [])
            (ap (λ (l : List Forest). keep_last kept_trees (l ++ s.session.document.forest ∷ [])) (sym trees_are) ∙ kept_more tree_of kept_trees past (entry old));
        tree = right.tree;
        within = revision_within s.session.revision;
      }

    more : (side : Side) → Holds parent s.session.document.next_free side → Holds parent free side
    more side h = λ l at.
        let low = h l at in
        let later = free_later s.session.document d edit is in
        let first = low.1 in
        (low.0, omega (arith, first, later))

    more_all : (es : List Entry) → AllHold parent s.session.document.next_free es → AllHold parent free es
    more_all es h = All-weaker (λ (e : Entry). Holds parent s.session.document.next_free e.side) (λ (e : Entry). Holds parent free e.side) (λ e. more e.side) es h

    leaves : LeavesList parent s.session.document.forest d.forest own (parent < s.session.document.next_free)
    leaves = edit_leaves parent s.session.document d edit can it.tree is

    undoes : IsUndoOf s.session.document.forest d.forest own undo
    undoes = edit_undone_by s.session.document d edit can it.tree is

    -- the change that undoes it leads back, where the list is the same if it was not touched
    leads_by : (old new : List Child) → ((own.list ≡ Some parent → ⊥) → old ≡ new) → IsBack parent (entry old) (here next new)
    leads_by old new same = (record { again = undoes.again; same = same; there = leaves.there }, undoes.touches_so)

    -- a list that the tree has is this one
    now_by : (new : List Child) → ((l : List Child) → list_at parent d.forest ≡ Some l → l ≡ new) → Holds parent free (here next new)
    now_by new same = λ l at. (same l at, listed_below free parent d.forest right.tree.nodes (l, at))

    moved_by : (new : List Child) → ((own.list ≡ Some parent → ⊥) → parent < s.session.document.next_free → new ≡ it.list) → IsMoved s next it.list new
    moved_by new same = record {
      free = free_later s.session.document d edit is;
      later = revision_later s.session.revision it.within;
      by = inr (record { author = author; keys = own; turns_are = refl; revision_is = refl; same = same; there = leaves.there });
    }

    abbrev EditResult : Type 0
    EditResult = Traced keys s it.list next (λ (behind : Log Touched). (next.turns ≡ with_turn s author own) × (behind ≡ noted keys own))

    known_result : (new : List Child) → ((own.list ≡ Some parent → ⊥) → it.list ≡ new) → ((l : List Child) → list_at parent d.forest ≡ Some l → l ≡ new) → EditResult
    unfolding edited_traced
    known_result new same now = record {
      behind = noted keys own;
      turn = (refl, refl);
      traced = edited_traced it.past it.list new it.back refl refl refl (more_all it.past it.past_holds) (more (here s it.list) it.now) (leads_by it.list new same) (now_by new now);
      moved = moved_by new (λ far low. sym (same far));
    }

    -- the number was given to no node yet
    abbrev born : List Child
    born = unwrap_or (list_at parent d.forest) []

    unborn_result : s.session.document.next_free ≤ parent → EditResult
    unfolding edited_traced
    unborn_result high = record {
      behind = noted keys own;
      turn = (refl, refl);
      traced = edited_traced (map (entry_with parent born) it.past) born born (all_with parent born it.past (here s it.list) it.back) (keys_with parent born it.past) (changes_with parent born it.past)
          (trees_with parent born it.past)
          (All-map (λ (e : Entry). Holds parent free e.side) (entry_with parent born) it.past
          (All-weaker (λ (e : Entry). Holds parent s.session.document.next_free e.side) (λ (e : Entry). Holds parent free (side_with parent born e.side)) (λ e h l at. absurd (let low = (h l at).1 in omega (arith, low, high)))
          it.past it.past_holds))
          (λ l at. absurd (let low = (it.now l at).1 in omega (arith, low, high))) (leads_by born born (λ far. refl)) (now_by born (λ l at. sym (ap (λ (o : Option (List Child)). unwrap_or o []) at)));
      moved = moved_by born (λ far low. absurd (omega (arith, low, high)));
    }

    pub edit_result : EditResult
    edit_result = elim (is_or (own.list) parent) [
      | inl touched_it ↦
          let both = leaves.there touched_it in
          known_result both.1.0 (λ far. absurd (far touched_it)) (λ l at. same_Some l both.1.0 (sym at ∙ both.1.1))
      | inr far ↦ elim (below_or parent s.session.document.next_free) [
        | inl low ↦ known_result it.list (λ apart. refl) (λ l at. (it.now l (leaves.stays low far l at)).0)
        | inr high ↦ unborn_result high
      ]
    ]

  -- ---- a step along the history

  module _ (keys : Log Touched) (s : OpenState) (it : IsTraced keys s) where
    abbrev d : Document
    d = s.session.document

    abbrev side : Side
    side = here s it.list

    -- what an undo is where these are the steps of the past
    abbrev undo_by : List Entry → Option Step
    undo_by past =
        step_by (undone (history_of (map tree_of past) d.forest (map tree_of it.future))) (last_item (map change_of_entry past))
        (λ (c : Change). with_undo_answered (with_undo_taken (log_of kept_trees (map change_of_entry past) (map change_of_entry it.future) Nothing)) (inverse_of d c)) (touched_undone d)

    undo_is : undo_of s ≡ undo_by it.past
    undo_is i = step_by (undone (it.history_is i)) (last_item (it.log_is i).past) (λ (c : Change). with_undo_answered (with_undo_taken (it.log_is i)) (inverse_of d c)) (touched_undone d)

    abbrev undo_at : List Entry → Entry → Step
    undo_at us e = record {
      history = history_of (map tree_of us) e.side.tree (d.forest ∷ map tree_of it.future);
      change = e.change;
      log = log_of kept_trees (map change_of_entry us) (inverse_of d e.change ∷ map change_of_entry it.future) Nothing;
      keys = touched_undone d e.side.tree e.change;
    }

    undo_at_is : (us : List Entry) (e : Entry) → undo_by (us ++ e ∷ []) ≡ Some (undo_at us e)
    undo_at_is us e i =
        step_by (option_map (λ (f : Forest). history_of (but_last tree_of us e i) f (d.forest ∷ map tree_of it.future)) (last_of tree_of us e i)) (last_of change_of_entry us e i)
        (λ (c : Change). log_of kept_trees (but_last change_of_entry us e i) (inverse_of d c ∷ map change_of_entry it.future) Nothing) (touched_undone d)

    abbrev UndoResult : OpenState → Type 0
    UndoResult next =
        Traced keys s it.list next (λ (behind : Log Touched). IsStepTurn s (last_item keys.past) (λ (own : Touched). with_undo_answered (with_undo_taken keys) own) keys next behind)

    module _ (us : List Entry) (e : Entry) (past_is : it.past ≡ us ++ e ∷ []) (found : List Found) (right : IsFound s.session.set (document_behind s (undo_at us e)) found) where
      abbrev undone_state : OpenState
      undone_state = with_step s (undo_at us e) found

      parts : IsBack parent e side × AreBack parent us e.side
      parts = back_pop parent us e side (subst (λ (p : List Entry). AreBack parent p side) past_is it.back)

      holds : AllHold parent d.next_free us × Holds parent d.next_free e.side
      holds = all_init (λ (x : Entry). Holds parent d.next_free x.side) us e (subst (AllHold parent d.next_free) past_is it.past_holds)

      keys_then : keys ≡ log_of kept_trees (map keys_of (us ++ e ∷ [])) (map keys_of it.future) Nothing
      keys_then = it.keys_is ∙ ap (λ (p : List Entry). log_of kept_trees (map keys_of p) (map keys_of it.future) Nothing) past_is

      undo_traced : IsTraced (with_undo_answered (with_undo_taken keys) e.keys) undone_state
      undo_traced = record {
        past = us;
        future = turned e side ∷ it.future;
        list = e.side.list;
        back = parts.1;
        on = (undone_on parent e side parts.0, it.on);
        past_holds = holds.0;
        future_holds = All-cons (λ (x : Entry). Holds parent d.next_free x.side) (turned e side) it.future it.now it.future_holds;
        now = holds.1;
        keys_is = ap (λ (l : Log Touched). with_undo_answered (with_undo_taken l) e.keys) keys_then
            ∙ ap (λ (l : List Touched). log_of kept_trees l (e.keys ∷ map keys_of it.future) Nothing) (but_last keys_of us e);
        log_is = ap (λ (c : Change). log_of kept_trees (map change_of_entry us) (c ∷ map change_of_entry it.future) Nothing) (inverse_same d e.change);
        history_is = refl;
        tree = right.tree;
        within = revision_within s.session.revision;
      }

      turned_so : undone_state.turns ≡ with_turn s 0 e.keys
      turned_so = ap (with_turn s 0) (ap (λ (c : Change). touches c e.side.tree) (inverse_same d e.change) ∙ parts.0.1)

      undo_result : UndoResult undone_state
      unfolding undo_traced
      undo_result = record {
        behind = with_undo_answered (with_undo_taken keys) e.keys;
        turn = subst (λ (o : Option Touched). IsStepTurn s o (λ (own : Touched). with_undo_answered (with_undo_taken keys) own) keys undone_state (with_undo_answered (with_undo_taken keys) e.keys))
            (sym (ap (λ (l : Log Touched). last_item l.past) keys_then ∙ last_of keys_of us e)) (turned_so, refl);
        traced = undo_traced;
        moved = record {
          free = omega arith;
          later = revision_later s.session.revision it.within;
          by = inr (record {
            author = 0;
            keys = e.keys;
            turns_are = turned_so;
            revision_is = refl;
            same = λ far low. parts.0.0.same far;
            there = λ touched_it. let both = parts.0.0.there touched_it in (both.1, both.0);
          });
        };
      }

    pub undone_so : (refused : List ℕ) (said : Said) (next : OpenState) → IsStepReply s (undo_of s) refused said next → UndoResult next
    undone_so refused said next h = by it.past refl
      where
        none_undone : it.past ≡ [] → UndoResult next
        none_undone none =
            let stays = stays_traced keys s next it (subst (λ (o : Option Step). IsStepReply s o refused said next) (undo_is ∙ ap undo_by none) h).1 in
            let last : last_item keys.past ≡ None = ap (λ (l : Log Touched). last_item l.past) it.keys_is ∙ ap (λ (p : List Entry). last_item (map keys_of p)) none in
            record {
              behind = stays.behind;
              turn = subst (λ (o : Option Touched). IsStepTurn s o (λ (own : Touched). with_undo_answered (with_undo_taken keys) own) keys next stays.behind) (sym last) stays.turn;
              traced = stays.traced;
              moved = stays.moved;
            }

        one_undone : (us : List Entry) (e : Entry) → it.past ≡ us ++ e ∷ [] → UndoResult next
        one_undone us e past_is =
            let r = subst (λ (o : Option Step). IsStepReply s o refused said next) (undo_is ∙ ap undo_by past_is ∙ undo_at_is us e) h in
            subst UndoResult (sym r.3) (undo_result us e past_is r.0 r.1)

        by : (p : List Entry) → it.past ≡ p → UndoResult next
        by [] none = none_undone none
        by (x ∷ xs) some = let cut = cut_end x xs in one_undone cut.0 cut.1 (some ∙ cut.2)

    -- what a redo is where these are the steps of the future
    abbrev redo_by : List Entry → Option Step
    redo_by future =
        step_by (redone (history_of (map tree_of it.past) d.forest (map tree_of future))) (slice_get (map change_of_entry future) 0)
        (λ (c : Change). with_redo_answered (with_redo_taken (log_of kept_trees (map change_of_entry it.past) (map change_of_entry future) Nothing)) (inverse_of d c)) (touched_redone d)

    redo_is : redo_of s ≡ redo_by it.future
    redo_is i = step_by (redone (it.history_is i)) (slice_get (it.log_is i).future 0) (λ (c : Change). with_redo_answered (with_redo_taken (it.log_is i)) (inverse_of d c)) (touched_redone d)

    abbrev redo_at : Entry → List Entry → Step
    redo_at e es = record {
      history = history_of (map tree_of it.past ++ d.forest ∷ []) e.side.tree (map tree_of es);
      change = e.change;
      log = log_of kept_trees (map change_of_entry it.past ++ inverse_of d e.change ∷ []) (map change_of_entry es) Nothing;
      keys = touched_redone d e.side.tree e.change;
    }

    abbrev RedoResult : OpenState → Type 0
    RedoResult next =
        Traced keys s it.list next (λ (behind : Log Touched). IsStepTurn s (slice_get keys.future 0) (λ (own : Touched). with_redo_answered (with_redo_taken keys) own) keys next behind)

    module _ (e : Entry) (es : List Entry) (future_is : it.future ≡ e ∷ es) (found : List Found) (right : IsFound s.session.set (document_behind s (redo_at e es)) found) where
      abbrev redone_state : OpenState
      redone_state = with_step s (redo_at e es) found

      on_parts : IsOn parent e side × AreOn parent es e.side
      on_parts = subst (λ (f : List Entry). AreOn parent f side) future_is it.on

      on_holds : AllHold parent d.next_free (e ∷ es)
      on_holds = subst (AllHold parent d.next_free) future_is it.future_holds

      keys_on : keys ≡ log_of kept_trees (map keys_of it.past) (e.keys ∷ map keys_of es) Nothing
      keys_on = it.keys_is ∙ ap (λ (f : List Entry). log_of kept_trees (map keys_of it.past) (map keys_of f) Nothing) future_is

      redo_traced : IsTraced (with_redo_answered (with_redo_taken keys) e.keys) redone_state
      redo_traced = record {
        past = it.past ++ turned e side ∷ [];
        future = es;
        list = e.side.list;
        back = back_push parent it.past (turned e side) e.side it.back (redone_back parent e side on_parts.0);
        on = on_parts.1;
        past_holds = All-push (λ (x : Entry). Holds parent d.next_free x.side) it.past (turned e side) it.past_holds it.now;
        future_holds = All-tail (λ (x : Entry). Holds parent d.next_free x.side) e es on_holds;
        now = All-head (λ (x : Entry). Holds parent d.next_free x.side) e es on_holds;
        keys_is = ap (λ (l : Log Touched). with_redo_answered (with_redo_taken l) e.keys) keys_on
            ∙ ap (λ (l : List Touched). log_of kept_trees l (map keys_of es) Nothing) (sym (map_push keys_of it.past (turned e side)));
        log_is = ap (λ (c : Change). log_of kept_trees (map change_of_entry it.past ++ c ∷ []) (map change_of_entry es) Nothing) (inverse_same d e.change)
            ∙ ap (λ (l : List Change). log_of kept_trees l (map change_of_entry es) Nothing) (sym (map_push change_of_entry it.past (turned e side)));
        history_is = ap (λ (l : List Forest). history_of l e.side.tree (map tree_of es)) (sym (map_push tree_of it.past (turned e side)));
        tree = right.tree;
        within = revision_within s.session.revision;
      }

      redone_turn : redone_state.turns ≡ with_turn s 0 e.keys
      redone_turn = ap (with_turn s 0) on_parts.0.1

      redo_result : RedoResult redone_state
      unfolding redo_traced
      redo_result = record {
        behind = with_redo_answered (with_redo_taken keys) e.keys;
        turn = subst (λ (o : Option Touched). IsStepTurn s o (λ (own : Touched). with_redo_answered (with_redo_taken keys) own) keys redone_state (with_redo_answered (with_redo_taken keys) e.keys))
            (sym (ap (λ (l : Log Touched). slice_get l.future 0) keys_on)) (redone_turn, refl);
        traced = redo_traced;
        moved = record {
          free = omega arith;
          later = revision_later s.session.revision it.within;
          by = inr (record {
            author = 0;
            keys = e.keys;
            turns_are = redone_turn;
            revision_is = refl;
            same = λ far low. on_parts.0.0.same far;
            there = λ touched_it. let both = on_parts.0.0.there touched_it in (both.1, both.0);
          });
        };
      }

    pub redone_so : (refused : List ℕ) (said : Said) (next : OpenState) → IsStepReply s (redo_of s) refused said next → RedoResult next
    redone_so refused said next h = by it.future refl
      where
        none_redone : it.future ≡ [] → RedoResult next
        none_redone none =
            let stays = stays_traced keys s next it (subst (λ (o : Option Step). IsStepReply s o refused said next) (redo_is ∙ ap redo_by none) h).1 in
            let last : slice_get keys.future 0 ≡ None = ap (λ (l : Log Touched). slice_get l.future 0) it.keys_is ∙ ap (λ (f : List Entry). slice_get (map keys_of f) 0) none in
            record {
              behind = stays.behind;
              turn = subst (λ (o : Option Touched). IsStepTurn s o (λ (own : Touched). with_redo_answered (with_redo_taken keys) own) keys next stays.behind) (sym last) stays.turn;
              traced = stays.traced;
              moved = stays.moved;
            }

        by : (f : List Entry) → it.future ≡ f → RedoResult next
        by [] none = none_redone none
        by (e ∷ es) some =
            let r = subst (λ (o : Option Step). IsStepReply s o refused said next) (redo_is ∙ ap redo_by some) h in
            subst RedoResult (sym r.3) (redo_result e es some r.0 r.1)

    -- ---- another set

    swap_traced : (set : SchemaSet) (found : List Found) → IsTraced (cleared keys) (with_swap s set found)
    swap_traced set found = record {
      past = [];
      future = [];
      list = it.list;
      back = tt;
      on = tt;
      past_holds = All-nil (λ (e : Entry). Holds parent d.next_free e.side);
      future_holds = All-nil (λ (e : Entry). Holds parent d.next_free e.side);
      now = it.now;
      keys_is = ap (λ (l : Log Touched). cleared l) it.keys_is;
      log_is = ap (λ (l : Log Change). cleared l) it.log_is;
      history_is = refl;
      tree = it.tree;
      within = revision_within s.session.revision;
    }

    pub swapped_so : (set : SchemaSet) (found : List Found) → Traced keys s it.list (with_swap s set found) (λ (behind : Log Touched). behind ≡ cleared keys)
    unfolding swap_traced
    swapped_so set found = record {
      behind = cleared keys;
      turn = refl;
      traced = swap_traced set found;
      moved = record { free = omega arith; later = revision_later s.session.revision it.within; by = inl (refl, refl) };
    }
