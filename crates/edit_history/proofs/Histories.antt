-- Logs of steps lead through histories.
use Rattle.std.proofs.Common.{◌≡◌, ℕ, ◌-◌, List, [], ◌∷◌, ◌++◌, length, take, drop, slice_get, Option, None, Some, refl, sym, ap, ◌∙◌, subst, arith, length-append, take_at, suc, zero}
use Rattle.std.specs.Option.{MatchOption, option_map}
use Rattle.circular_buffer.specs.Buffer.{keep_last, last_item}
use Rattle.edit_history.specs.Log.{Log, noted, with_undo_taken, with_undo_answered, with_redo_taken, with_redo_answered}
use Rattle.edit_history.specs.History.{History, history_of, edited, undone, redone, first_or, LeadBack, LeadOn, IsLogOf}

module _ {X : Type 0} where
  slice_get-end : (xs : List X) (x : X) (i : ℕ) → i ≡ length xs → slice_get (xs ++ x ∷ []) i ≡ Some x
  slice_get-end [] x zero e = refl
  slice_get-end [] x (suc i) e = absurd (omega arith)
  slice_get-end (y ∷ xs) x zero e = absurd (omega arith)
  slice_get-end (y ∷ xs) x (suc i) e = slice_get-end xs x i (omega arith)

  one_less : (xs : List X) (x : X) → length (xs ++ x ∷ []) - 1 ≡ length xs
  one_less xs x = omega (arith, length-append xs (x ∷ []))

  last_item-end : (xs : List X) (x : X) → last_item (xs ++ x ∷ []) ≡ Some x
  last_item-end xs x = slice_get-end xs x (length (xs ++ x ∷ []) - 1) (one_less xs x)

  take-but_last : (xs : List X) (x : X) → take (length (xs ++ x ∷ []) - 1) (xs ++ x ∷ []) ≡ xs
  take-but_last xs x = take_at xs (x ∷ []) (length (xs ++ x ∷ []) - 1) (sym (one_less xs x))

  -- the list without its last item, and that
  cut_end : (x : X) (xs : List X) → (us : List X) × (y : X) × (x ∷ xs ≡ us ++ y ∷ [])
  cut_end x [] = ([], x, refl)
  cut_end x (y ∷ ys) = let on = cut_end y ys in (x ∷ on.0, on.1, ap (λ l. x ∷ l) on.2)

  first_or-push : (xs : List X) (x y : X) → first_or xs x ≡ first_or (xs ++ x ∷ []) y
  first_or-push [] x y = refl
  first_or-push (z ∷ xs) x y = refl

module _ {S D : Type 0} (Leads : S → D → D → Type 0) where
  back_length : (ss : List S) (ds : List D) (p : D) → LeadBack Leads ss ds p → length ss ≡ length ds
  back_length [] [] p h = refl
  back_length [] (d ∷ ds) p h = absurd h
  back_length (s ∷ ss) [] p h = absurd h
  back_length (s ∷ ss) (d ∷ ds) p h = let rest = back_length ss ds p h.1 in omega arith

  -- one more step, from a new present document
  back_push : (ss : List S) (ds : List D) (p q : D) (s : S) → LeadBack Leads ss ds p → Leads s q p → LeadBack Leads (ss ++ s ∷ []) (ds ++ p ∷ []) q
  back_push [] [] p q s h leads = (leads, tt)
  back_push [] (d ∷ ds) p q s h leads = absurd h
  back_push (t ∷ ss) [] p q s h leads = absurd h
  back_push (t ∷ ss) (d ∷ ds) p q s h leads = (subst (λ e. Leads t e d) (first_or-push ds p q) h.0, back_push ss ds p q s h.1 leads)

  -- the oldest steps are forgotten
  back_drop : (n : ℕ) (ss : List S) (ds : List D) (p : D) → LeadBack Leads ss ds p → LeadBack Leads (drop n ss) (drop n ds) p
  back_drop zero ss ds p h = h
  back_drop (suc n) [] [] p h = tt
  back_drop (suc n) [] (d ∷ ds) p h = absurd h
  back_drop (suc n) (s ∷ ss) [] p h = absurd h
  back_drop (suc n) (s ∷ ss) (d ∷ ds) p h = back_drop n ss ds p h.1

  -- the last step is taken
  back_pop : (ss : List S) (s : S) (ds : List D) (d p : D) → LeadBack Leads (ss ++ s ∷ []) (ds ++ d ∷ []) p → Leads s p d × LeadBack Leads ss ds d
  back_pop [] s [] d p h = (h.0, tt)
  back_pop [] s (e ∷ []) d p h = absurd h.1
  back_pop [] s (e ∷ f ∷ ds) d p h = absurd h.1
  back_pop (t ∷ []) s [] d p h = absurd h.1
  back_pop (t ∷ u ∷ ss) s [] d p h = absurd h.1
  back_pop (t ∷ ss) s (e ∷ ds) d p h = let rest = back_pop ss s ds d p h.1 in (rest.0, (subst (λ f. Leads t f e) (sym (first_or-push ds d p)) h.0, rest.1))

  pub edited_on : (log : Log S) (h : History D) (d : D) (inverse : S) → IsLogOf Leads log h → Leads inverse d h.present → IsLogOf Leads (noted log inverse) (edited log.depth h d)
  edited_on log h d inverse is leads =
      let all = back_push log.past h.past h.present d inverse is.past leads in
      let same : length (log.past ++ inverse ∷ []) ≡ length (h.past ++ h.present ∷ []) = back_length _ _ d all in
      let kept = back_drop (length (log.past ++ inverse ∷ []) - log.depth) (log.past ++ inverse ∷ []) (h.past ++ h.present ∷ []) d all in
      record {
        past = subst (λ (n : ℕ). LeadBack Leads (keep_last log.depth (log.past ++ inverse ∷ [])) (drop (n - log.depth) (h.past ++ h.present ∷ [])) d) same kept;
        future = tt;
      }

  -- what the log gives to be undone
  abbrev pub UndoLeads : Log S → History D → Option S → Type 0
  UndoLeads log h step = MatchOption step (undone h ≡ None)
      (λ s. (g : History D) × (undone h ≡ Some g) × Leads s h.present g.present
      × ((inverse : S) → Leads inverse g.present h.present → IsLogOf Leads (with_undo_answered (with_undo_taken log) inverse) g))

  undone_at : (log : Log S) (h : History D) (ss : List S) (s : S) (ds : List D) (d : D) → log.past ≡ ss ++ s ∷ [] → h.past ≡ ds ++ d ∷ [] → IsLogOf Leads log h → UndoLeads log h (last_item log.past)
  undone_at log h ss s ds d steps docs is =
      let parts = back_pop ss s ds d h.present (subst (λ l. LeadBack Leads l (ds ++ d ∷ []) h.present) steps (subst (λ l. LeadBack Leads log.past l h.present) docs is.past)) in
      let fewer : take (length log.past - 1) log.past ≡ ss = ap (λ l. take (length l - 1) l) steps ∙ take-but_last ss s in
      let g = history_of ds d (h.present ∷ h.future) in
      let becomes : undone h ≡ Some g =
      (λ i. option_map (λ e. history_of (take (length (docs i) - 1) (docs i)) e (h.present ∷ h.future)) (last_item (docs i)))
      ∙ (λ i. option_map (λ e. history_of (take-but_last ds d i) e (h.present ∷ h.future)) (last_item-end ds d i)) in
      subst (UndoLeads log h) (sym (ap last_item steps ∙ last_item-end ss s)) (
        g,
        becomes,
        parts.0,
        λ inverse leads. record {
          past = subst (λ l. LeadBack Leads l ds d) (sym fewer) parts.1;
          future = (leads, is.future);
        },
      )

  pub undone_on : (log : Log S) (h : History D) → IsLogOf Leads log h → UndoLeads log h (last_item log.past)
  undone_on log h is = by log.past h.past refl refl is.past
    where
      by : (ss : List S) (ds : List D) → log.past ≡ ss → h.past ≡ ds → LeadBack Leads ss ds h.present → UndoLeads log h (last_item log.past)
      by [] [] e f leads = subst (UndoLeads log h) (sym (ap last_item e)) (ap (λ l. option_map (λ d. history_of (take (length l - 1) l) d (h.present ∷ h.future)) (last_item l)) f)
      by [] (d ∷ ds) e f leads = absurd leads
      by (s ∷ ss) [] e f leads = absurd leads
      by (s ∷ ss) (d ∷ ds) e f leads =
          let one = cut_end s ss in let two = cut_end d ds in
          undone_at log h one.0 one.1 two.0 two.1 (e ∙ one.2) (f ∙ two.2) is

  -- what the log gives to be redone
  abbrev pub RedoLeads : Log S → History D → Option S → Type 0
  RedoLeads log h step = MatchOption step (redone h ≡ None)
      (λ s. (g : History D) × (redone h ≡ Some g) × Leads s h.present g.present
      × ((inverse : S) → Leads inverse g.present h.present → IsLogOf Leads (with_redo_answered (with_redo_taken log) inverse) g))

  pub redone_on : (log : Log S) (h : History D) → IsLogOf Leads log h → RedoLeads log h (slice_get log.future 0)
  redone_on log h is = by log.future h.future refl refl is.future
    where
      by : (ss : List S) (ds : List D) → log.future ≡ ss → h.future ≡ ds → LeadOn Leads ss ds h.present → RedoLeads log h (slice_get log.future 0)
      by [] [] e f leads = subst (RedoLeads log h) (sym (ap (λ l. slice_get l 0) e)) (ap (λ l. option_map (λ d. history_of (h.past ++ h.present ∷ []) d (drop 1 l)) (slice_get l 0)) f)
      by [] (d ∷ ds) e f leads = absurd leads
      by (s ∷ ss) [] e f leads = absurd leads
      by (s ∷ ss) (d ∷ ds) e f leads =
          subst (RedoLeads log h) (sym (ap (λ l. slice_get l 0) e)) (
            history_of (h.past ++ h.present ∷ []) d ds,
            ap (λ l. option_map (λ d. history_of (h.past ++ h.present ∷ []) d (drop 1 l)) (slice_get l 0)) f,
            leads.0,
            λ inverse back. record {
              past = back_push log.past h.past h.present d inverse is.past back;
              future = subst (λ l. LeadOn Leads (drop 1 l) ds d) (sym e) leads.1;
            },
          )
