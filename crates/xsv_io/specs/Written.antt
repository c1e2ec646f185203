-- What a call does to the sink that it writes to.
use Rattle.std.specs.Prelude.{◌≡◌, ℕ, List, Option, Result, OnOk, OnErr}
use Rattle.std.specs.Io.KnownBytes.{Appends}
use Rattle.xsv_io.specs.Causes.{HasCause}
use Rattle.xsv_io.specs.Writing.{AppendsFront}

-- Where it answers Ok, the sink took these bytes, all of them; where it fails, a front of them was taken, and the count of
-- faults rose. The count never falls, and its bound stays.
pub record Written {W E : Type 0} (taken : W → Option (List ℕ)) (faults : W → ℕ) (bound : W → Option ℕ) (old new : W) (result : Result Unit E) (bytes : List ℕ) : Type 0 where
  pub all : OnOk result (Appends (taken old) (taken new) bytes)
  pub front : OnErr result (AppendsFront (taken old) (taken new) bytes)
  pub cause : HasCause (faults old) (faults new) result
  pub kept : bound new ≡ bound old
