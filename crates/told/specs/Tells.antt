-- What a call has written that answers, or breaks off.
use Rattle.std.specs.Prelude.{◌≡◌, ℕ, List, Option, Result, Ok, Err}
use Rattle.std.specs.Io.KnownBytes.{Appends}
use Rattle.xsv_io.specs.Causes.{KeepsCount}
use Rattle.xsv_io.specs.Writing.{AppendsFront}
use Rattle.told.specs.declared.break_off.BreakOff.{BreakOff}
use Rattle.told.specs.declared.break_off.BreakOff.TheVariants.{Memory, WriteFault}

-- all of the text was written; for want of memory, nothing; where a write failed, a front
abbrev pub Wrote : {T : Type 0} → Result T BreakOff → Option (List ℕ) → Option (List ℕ) → List ℕ → Type 0
Wrote (Ok x) old new text = Appends old new text
Wrote (Err Memory) old new text = new ≡ old
Wrote (Err WriteFault) old new text = AppendsFront old new text

abbrev pub IsWriteFault : {T : Type 0} → Result T BreakOff → Type 0
IsWriteFault (Ok x) = ⊥
IsWriteFault (Err Memory) = ⊥
IsWriteFault (Err WriteFault) = Unit {0}

-- the text was written as the answer says, and the sink's count rose where a write failed
pub record Tells {W T : Type 0} (taken : W → Option (List ℕ)) (faults : W → ℕ) (bound : W → Option ℕ) (old new : W) (result : Result T BreakOff) (text : List ℕ) : Type 0 where
  pub wrote : Wrote result (taken old) (taken new) text
  pub counts : KeepsCount faults bound old new (IsWriteFault result)
