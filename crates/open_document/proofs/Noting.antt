-- A turn that is noted makes the next revision.
use Rattle.std.proofs.Common.{◌≡◌, ◌≤◌, ◌^◌, ◌-◌, ℕ, List, [], ◌∷◌, ◌++◌, refl, sym, ap, ◌∙◌, subst, arith}
use Rattle.std.proofs.lemmas.List.Elements.{All-push}
use Rattle.edit_history.specs.Logged.{Logged, AreNoLater}
use Rattle.edit_history.specs.Turns.{turn}
use Rattle.edit_history.specs.declared.turn.Turn.{Turn}
use Rattle.edit_history.specs.declared.touched.Touched.{Touched}
use Rattle.session_model.specs.State.{State, next_revision}
use Rattle.open_document.specs.Held.{state_of, IsLogged}
use Rattle.open_document.specs.Steps.{with_turn}
use Rattle.open_document.specs.declared.held.OpenDocument.{OpenDocument}

next_later : (n : ℕ) → n ≤ 2 ^ 64 - 1 → n ≤ next_revision n
next_later n h = grind arith

pub next_within : (n : ℕ) → next_revision n ≤ 2 ^ 64 - 1
next_within n = grind arith

still_later : (ts : List Turn) (n m : ℕ) → n ≤ m → AreNoLater ts n → AreNoLater ts m
still_later ts n m le h k t at = let first = h k t at in omega (arith, first, le)

module _ (x : OpenDocument) (logged : IsLogged x) where
  -- the turns so far made no later revision than the next
  pub turns_before : (n : ℕ) → n ≡ next_revision x.session.revision → AreNoLater x.turns.turns n
  turns_before n is =
      still_later x.turns.turns x.session.revision n (subst (λ (m : ℕ). x.session.revision ≤ m) (sym is) (next_later x.session.revision logged.within)) logged.later

  module _ (session : State) (turns : Logged) (author : ℕ) (keys : Touched) (next : session.revision ≡ next_revision x.session.revision) where
    -- a turn was noted: it made the revision of the session, which is the next
    abbrev pub IsNoted : Type 0
    IsNoted = turns.turns ≡ with_turn (state_of x) author keys

    pub noted_as : (revision : ℕ) (own : Touched) → revision ≡ session.revision → own ≡ keys → turns.turns ≡ x.turns.turns ++ turn revision author own ∷ [] → IsNoted
    noted_as revision own is same noted =
        noted ∙ ap (λ (n : ℕ). x.turns.turns ++ turn n author own ∷ []) (is ∙ next) ∙ ap (λ (k : Touched). x.turns.turns ++ turn (next_revision x.session.revision) author k ∷ []) same

    pub turns_behind : IsNoted → AreNoLater turns.turns session.revision
    turns_behind noted =
        let last : Turn = turn (next_revision x.session.revision) author keys in
        subst (λ (n : ℕ). AreNoLater turns.turns n) (sym next) (subst (λ (ts : List Turn). AreNoLater ts (next_revision x.session.revision)) (sym noted)
        (All-push (λ (t : Turn). t.revision ≤ next_revision x.session.revision) x.turns.turns last (turns_before (next_revision x.session.revision) refl) (omega arith)))

    pub within_behind : session.revision ≤ 2 ^ 64 - 1
    within_behind = subst (λ (n : ℕ). n ≤ 2 ^ 64 - 1) (sym next) (next_within x.session.revision)

-- ---- room for a turn

-- room is none of what contracts see of a document
pub with_room : (x : OpenDocument) (turns : Logged) → turns.turns ≡ x.turns.turns → state_of (record x { turns = turns }) ≡ state_of x
with_room x turns same = ap (λ (ts : List Turn). record (state_of x) { turns = ts }) same

pub room_logged : (x : OpenDocument) (turns : Logged) → turns.turns ≡ x.turns.turns → IsLogged x → IsLogged (record x { turns = turns })
room_logged x turns same logged = record {
  depth = logged.depth;
  logged = logged.logged;
  later = subst (λ (ts : List Turn). AreNoLater ts x.session.revision) (sym same) logged.later;
  within = logged.within;
  spaced = logged.spaced;
}
