-- What is remembered of a history, reply by reply.
use Rattle.std.proofs.Common.{◌≡◌, inl, inr, ℕ, List, [], ◌∷◌, Bool, true, false, Option, Some, None, Result, Ok, Err, refl, sym, subst, arith}
use Rattle.std.specs.Prelude.{All}
use Rattle.std.proofs.lemmas.List.Elements.{All-nil, All-head, All-tail}
use Rattle.tree_rows.specs.Forest.{Document}
use Rattle.tree_edits.specs.Edits.{can_be_made}
use Rattle.tree_edits.specs.Tests.{edited}
use Rattle.tree_edits.specs.declared.edit.Edit.{Edit}
use Rattle.tree_edits.specs.declared.edit.EditError.{EditError}
use Rattle.edit_script.specs.Commands.{IsReadyOr}
use Rattle.edit_script.specs.declared.command.Command.TheVariants as commands
use Rattle.kept_next.specs.Answers.{PlaceQuestion}
use Rattle.xsv_run.specs.from_edit_session.Around.{asked_at}
use Rattle.xsv_run.specs.from_edit_session.AroundError.{AroundError}
use Rattle.assessment.specs.Assessment.{Entry as Found}
use Rattle.what_is_found.specs.IsFound.{IsFound}
use Rattle.session_model.specs.State.{with_names}
use Rattle.edit_history.specs.declared.touched.Touched.{Touched}
use Rattle.edit_history.specs.Log.{Log, log_of}
use Rattle.edit_history.specs.declared.log.Taken.TheVariants.{Nothing}
use Rattle.told.specs.Told.{Said}
use Rattle.told.specs.Outcomes.{SetOutcome, accepted, broken}
use Rattle.xsv_run.specs.from_open_document.Answers.{opened}
use Rattle.xsv_run.specs.from_open_document.Replies.{is_section, child_count, no_past, no_future}
use Rattle.xsv_run.specs.from_open_document.State.{OpenState, Basis, kept_trees}
use Rattle.xsv_run.specs.from_open_document.Touches.{turn_fault}
use Rattle.xsv_run.specs.from_open_document.TurnFault.{TurnFault}
use Rattle.xsv_run.specs.Authors.{Read, AreAnswers}
use Rattle.xsv_run.specs.Complete.{IsReply, IsEditReply, IsTurnReply, IsNextReply, IsSetReply, IsSwapReply}
use Rattle.turn_laws.specs.Lists.{Child, list_at}
use Rattle.turn_laws.specs.Turned.{IsEditTurn, IsAuthorTurn, IsSwapTurn, IsTurn, AreTurns}
use Rattle.turn_laws.proofs.Lists.{listed_below}
use Rattle.turn_laws.proofs.Tracing.{Entry, Holds}
use Rattle.turn_laws.proofs.Traced.{IsTraced, Traced, stays_traced, edit_result, undone_so, redone_so, swapped_so}

module _ (parent : ℕ) where
  module _ (keys : Log Touched) (s : OpenState) (it : IsTraced parent keys s) (own : Said) (next : OpenState) where
    edit_so : (author : ℕ) (edit : Edit) → can_be_made edit ≡ true → (r : Result Document EditError) → edited s.session.document edit ≡ r → IsEditReply s author edit r own next
        → Traced parent keys s it.list next (λ (behind : Log Touched). IsEditTurn s author edit r keys next behind)
    edit_so author edit can (Ok d) is h =
        subst (λ (x : OpenState). Traced parent keys s it.list x (λ (behind : Log Touched). IsEditTurn s author edit (Ok d) keys x behind)) (sym h.3)
        (edit_result parent keys s it author edit d h.0 can is h.1)
    edit_so author edit can (Err e) is h = stays_traced parent keys s next it h.1

    turn_so : (author : ℕ) (edit : Edit) → can_be_made edit ≡ true → (fault : Option TurnFault) → IsTurnReply s author edit fault own next
        → Traced parent keys s it.list next (λ (behind : Log Touched). IsAuthorTurn s author edit fault keys next behind)
    turn_so author edit can (Some fault) h = stays_traced parent keys s next it h.1
    turn_so author edit can None h = edit_so author edit can (edited s.session.document edit) refl h

    next_so : (children : ℕ) (r : Result PlaceQuestion AroundError) → IsNextReply s children r own next → next ≡ s
    next_so children (Ok question) h = h.3
    next_so children (Err e) h = h.1

    abbrev SwapResult : Type 0
    SwapResult = Traced parent keys s it.list next (λ (behind : Log Touched). IsSwapTurn s keys next behind)

    unswapped : next ≡ s → SwapResult
    unswapped is =
        let stays = stays_traced parent keys s next it is in
        record { behind = stays.behind; turn = (stays.turn.0, inl (is, stays.turn.1)); traced = stays.traced; moved = stays.moved }

    set_so : (o : SetOutcome) → IsSetReply s o own next → SwapResult
    set_so (accepted set) h =
        let one = swapped_so parent keys s it set h.0 in
        subst (λ (x : OpenState). Traced parent keys s it.list x (λ (behind : Log Touched). IsSwapTurn s keys x behind)) (sym h.3)
        (record { behind = one.behind; turn = (refl, inr (set, h.0, refl, one.turn)); traced = one.traced; moved = one.moved })
    set_so (broken fault) h = unswapped h.1

    swap_so : (number : ℕ) (there : Bool) → IsSwapReply s number there own next → SwapResult
    swap_so number true h = set_so h.0 h.2
    swap_so number false h = unswapped h.1

    pub reply_so : (read : Read) → IsReadyOr read → IsReply s read own next → Traced parent keys s it.list next (λ (behind : Log Touched). IsTurn s read keys next behind)
    reply_so (Ok (commands.Change edit)) ready h = edit_so 0 edit ready (edited s.session.document edit) refl h
    reply_so (Ok (commands.Assess node)) ready h = stays_traced parent keys s next it h.1
    reply_so (Ok commands.Errors) ready h = stays_traced parent keys s next it h.1
    reply_so (Ok commands.Report) ready h = stays_traced parent keys s next it h.1
    reply_so (Ok commands.Total) ready h = stays_traced parent keys s next it h.1
    reply_so (Ok commands.Undo) ready h = undone_so parent keys s it no_past own next h
    reply_so (Ok commands.Redo) ready h = redone_so parent keys s it no_future own next h
    reply_so (Ok (commands.Next node place)) ready h = stays_traced parent keys s next it (next_so (child_count s.session node) (asked_at s.session node place) h)
    reply_so (Ok (commands.Swap number)) ready h = swap_so number (is_section s.documents number) h
    reply_so (Ok (commands.Turn author seen edit)) ready h = turn_so author edit ready (turn_fault s author seen edit) h
    reply_so (Err fault) ready h = stays_traced parent keys s next it h.1

  -- a document that was just opened
  some_list : (o : Option (List Child)) → (list : List Child) × ((l : List Child) → o ≡ Some l → l ≡ list)
  some_list None = ([], λ l at. absurd (cc at))
  some_list (Some x) = (x, λ l at. sym (cc at))

  pub opened_so : (most : ℕ) (basis : Basis) (d : Document) (found : List Found) → IsFound (with_names basis.set d.forest) d found
      → IsTraced parent (log_of kept_trees [] [] Nothing) (opened most basis d found)
  opened_so most basis d found right =
      let first = some_list (list_at parent d.forest) in
      record {
        past = [];
        future = [];
        list = first.0;
        back = tt;
        on = tt;
        past_holds = All-nil (λ (e : Entry). Holds parent d.next_free e.side);
        future_holds = All-nil (λ (e : Entry). Holds parent d.next_free e.side);
        now = λ l at. (first.1 l at, listed_below d.next_free parent d.forest right.tree.nodes (l, at));
        keys_is = refl;
        log_is = refl;
        history_is = refl;
        tree = right.tree;
        within = omega arith;
      }

  -- all lines and their answers
  pub turns_so : (keys : Log Touched) (s : OpenState) → IsTraced parent keys s → (reads : List Read) (said : List Said) (last : OpenState) → All IsReadyOr reads → AreAnswers s reads said last
      → AreTurns s keys reads said last
  turns_so keys s it [] [] last ready h = h
  turns_so keys s it [] (own ∷ more) last ready h = absurd h
  turns_so keys s it (read ∷ reads) [] last ready h = absurd h
  turns_so keys s it (read ∷ reads) (own ∷ more) last ready h =
      let one = reply_so keys s it own h.0 read (All-head IsReadyOr read reads ready) h.1 in
      (h.0, one.behind, h.1, one.turn, turns_so one.behind h.0 one.traced reads more last (All-tail IsReadyOr read reads ready) h.2)

  -- what is remembered behind them
  pub traced_so : (keys : Log Touched) (s : OpenState) → IsTraced parent keys s → (reads : List Read) (said : List Said) (last : OpenState) → All IsReadyOr reads → AreAnswers s reads said last
      → (behind : Log Touched) × IsTraced parent behind last
  traced_so keys s it [] [] last ready h = subst (λ (x : OpenState). (behind : Log Touched) × IsTraced parent behind x) (sym h) (keys, it)
  traced_so keys s it [] (own ∷ more) last ready h = absurd h
  traced_so keys s it (read ∷ reads) [] last ready h = absurd h
  traced_so keys s it (read ∷ reads) (own ∷ more) last ready h =
      let one = reply_so keys s it own h.0 read (All-head IsReadyOr read reads ready) h.1 in
      traced_so one.behind h.0 one.traced reads more last (All-tail IsReadyOr read reads ready) h.2
