-- A call that failed behind others: what holds of the sink.
use Rattle.std.proofs.Common.{◌≡◌, ◌≤◌, ℕ, List, arith, Option, Result, Ok, Err}
use Rattle.std.specs.Result.{IsErr}
use Rattle.xsv_io.specs.Causes.{Rose}
use Rattle.xsv_io.specs.Writing.{AppendsFront}
use Rattle.xsv_io.specs.Written.{Written}

pub failed : {W E : Type 0} (taken : W → Option (List ℕ)) (faults : W → ℕ) (bound : W → Option ℕ) (old new : W) (r : Result Unit E) (bytes : List ℕ)
    → IsErr r → AppendsFront (taken old) (taken new) bytes → faults old ≤ faults new → Rose (faults old) (faults new) → bound new ≡ bound old
    → Written taken faults bound old new r bytes
failed taken faults bound old new (Ok x) bytes e front later rose kept = grind arith
failed taken faults bound old new (Err x) bytes e front later rose kept =
    record { all = tt; front = front; cause = record { later = later; failed = rose }; kept = kept }

pub rose-later : {before between now : ℕ} → before ≤ between → Rose between now → Rose before now
rose-later {before} {between} {now} later rose = omega (arith, later, rose)
