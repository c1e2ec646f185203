-- What may be undone and redone, as two lists of steps.
use Rattle.std.specs.Prelude.{◌≡◌, ℕ, ◌+◌, ◌-◌, ◌≤◌, List, [], ◌∷◌, ◌++◌, length, take, drop}
use Rattle.circular_buffer.specs.Buffer.{keep_last}
use Rattle.edit_history.specs.declared.log.Taken.{Taken}
use Rattle.edit_history.specs.declared.log.Taken.TheVariants.{Nothing, Undo, Redo}

-- at most `depth` steps: those that lead back, the one to the state right before last, and those that lead on again, in order;
-- and which step was taken off and is not answered yet
pub record Log (S : Type 0) : Type 0 where
  pub depth : ℕ
  pub past : List S
  pub future : List S
  pub taken : Taken

-- how many steps wait for an answer
abbrev pub count_taken : Taken → ℕ
count_taken Nothing = 0
count_taken Undo = 1
count_taken Redo = 1

module _ {S : Type 0} where
  abbrev pub log_of : ℕ → List S → List S → Taken → Log S
  log_of depth past future taken = record { depth = depth; past = past; future = future; taken = taken }

  -- a change was made: its inverse leads back, the oldest step past the depth goes, and nothing leads on
  abbrev pub noted : Log S → S → Log S
  noted log inverse = log_of log.depth (keep_last log.depth (log.past ++ inverse ∷ [])) [] log.taken

  -- the step that leads right back is taken
  abbrev pub with_undo_taken : Log S → Log S
  with_undo_taken log = log_of log.depth (take (length log.past - 1) log.past) log.future Undo

  -- it was made, and its inverse leads on
  abbrev pub with_undo_answered : Log S → S → Log S
  with_undo_answered log inverse = log_of log.depth log.past (inverse ∷ log.future) Nothing

  -- the step that leads on is taken
  abbrev pub with_redo_taken : Log S → Log S
  with_redo_taken log = log_of log.depth log.past (drop 1 log.future) Redo

  -- it was made, and its inverse leads back
  abbrev pub with_redo_answered : Log S → S → Log S
  with_redo_answered log inverse = log_of log.depth (log.past ++ inverse ∷ []) log.future Nothing

  -- no steps, and nothing taken
  abbrev pub cleared : Log S → Log S
  cleared log = log_of log.depth [] [] Nothing

  -- both rings have room for all steps, with the one that was taken
  abbrev pub FitsDepth : ℕ → ℕ → List S → List S → Taken → Type 0
  FitsDepth depth room past future taken = (room ≡ depth) × (length past + length future + count_taken taken ≤ depth)
