-- What a run has written and counted, by what is told.
use Rattle.std.specs.Prelude.{◌≤◌, ◌+◌, ℕ, List, ◌++◌, Option, Some, Result, Ok, Err}
use Rattle.std.specs.Io.KnownBytes.{Appends}
use Rattle.told.specs.Told.{Said, Told, over, Leads, CostsNext, IsBegun}
use Rattle.told.specs.declared.break_off.BreakOff.{BreakOff}
use Rattle.told.specs.declared.ending.Ending.{Ending}

-- what a sink took, and how many steps were counted
pub record Trace : Type 0 where
  pub taken : Option (List ℕ)
  pub steps : ℕ

abbrev pub trace : Option (List ℕ) → ℕ → Trace
trace taken steps = record { taken = taken; steps = steps }

-- From what is told to what is still to be told: what leads there was written, and no more steps were counted than it costs.
pub record Goes (t : Told) (old new : Trace) (after : Told) : Type 0 where
  pub said : Said
  pub leads : Leads t said after
  pub wrote : Appends old.taken new.taken said.text
  pub later : old.steps ≤ new.steps
  pub few : new.steps ≤ old.steps + said.cost

-- Some way through what is told, memory was wanting or a write failed: what leads there was written, and where a write failed a front of what is said
-- next; and no more steps were counted than the one costs, and what is said next, whatever is found.
pub record Breaks (t : Told) (why : BreakOff) (old new : Trace) : Type 0 where
  pub said : Said
  pub rest : Told
  pub part : List ℕ
  pub next : ℕ
  pub leads : Leads t said rest
  pub begun : IsBegun why rest part
  pub costs : CostsNext rest next
  pub wrote : Appends old.taken new.taken (said.text ++ part)
  pub later : old.steps ≤ new.steps
  pub few : new.steps ≤ old.steps + (said.cost + next)

-- what comes of an answer: all that leads on was written, or it was broken off
abbrev pub Answers : {T : Type 0} → Told → Result T BreakOff → Trace → Trace → (T → Told) → Type 0
Answers t (Ok x) old new after = Goes t old new (after x)
Answers t (Err why) old new after = Breaks t why old new

-- all of it was written, and the stream has ended so; or it was broken off
abbrev pub Ends : Told → Result Ending BreakOff → Trace → Trace → Type 0
Ends t ended old new = Answers t ended old new (λ ending. over (Some ending))
