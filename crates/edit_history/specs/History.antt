-- The histories of a document whose changes can be undone and redone, and the log that leads through one.
use Rattle.std.specs.Prelude.{ℕ, ◌-◌, List, [], ◌∷◌, ◌++◌, length, take, drop, slice_get, Option}
use Rattle.std.specs.Option.{option_map}
use Rattle.circular_buffer.specs.Buffer.{keep_last, last_item}
use Rattle.edit_history.specs.Log.{Log}

-- the documents before the present one, the newest last; the present one; and those that were left by undoing, the last left first
pub record History (D : Type 0) : Type 0 where
  pub past : List D
  pub present : D
  pub future : List D

module _ {D : Type 0} where
  abbrev pub history_of : List D → D → List D → History D
  history_of past present future = record { past = past; present = present; future = future }

  -- a document that was opened
  abbrev pub opened : D → History D
  opened d = history_of [] d []

  -- an edit made the document d: the one before is past, the oldest beyond the depth is forgotten, and there is no future
  abbrev pub edited : ℕ → History D → D → History D
  edited depth h d = history_of (keep_last depth (h.past ++ h.present ∷ [])) d []

  -- the present document goes to the front of the future, and the last of the past is present; where there is a past
  abbrev pub undone : History D → Option (History D)
  undone h = option_map (λ d. history_of (take (length h.past - 1) h.past) d (h.present ∷ h.future)) (last_item h.past)

  -- the present document goes to the end of the past, and the first of the future is present; where there is a future
  abbrev pub redone : History D → Option (History D)
  redone h = option_map (λ d. history_of (h.past ++ h.present ∷ []) d (drop 1 h.future)) (slice_get h.future 0)

  -- the first of some documents, or the one behind them all
  abbrev pub first_or : List D → D → D
  first_or [] d = d
  first_or (e ∷ es) d = e

-- `Leads s d e`: made of the document d, the step s gives e
module _ {S D : Type 0} (Leads : S → D → D → Type 0) where
  -- each step leads to its document from the one right behind it, and the last from the present one
  abbrev pub LeadBack : List S → List D → D → Type 0
  LeadBack [] [] present = Unit {0}
  LeadBack [] (d ∷ ds) present = ⊥
  LeadBack (s ∷ ss) [] present = ⊥
  LeadBack (s ∷ ss) (d ∷ ds) present = Leads s (first_or ds present) d × LeadBack ss ds present

  -- the first step leads from the present document to the first, and each further one from there to the next
  abbrev pub LeadOn : List S → List D → D → Type 0
  LeadOn [] [] present = Unit {0}
  LeadOn [] (d ∷ ds) present = ⊥
  LeadOn (s ∷ ss) [] present = ⊥
  LeadOn (s ∷ ss) (d ∷ ds) present = Leads s present d × LeadOn ss ds d

  -- the log leads through the history
  pub record IsLogOf (log : Log S) (h : History D) : Type 0 where
    pub past : LeadBack log.past h.past h.present
    pub future : LeadOn log.future h.future h.present
