-- What a run does to its source, its sink and its steps, whatever they tell.
use Rattle.std.specs.Prelude.{◌≡◌, ◌≤◌, ℕ, Option}
use Rattle.xsv_io.specs.Causes.{KeepsCount}
use Rattle.xsv_run.specs.declared.status.Status.{Status}
use Rattle.xsv_run.specs.declared.status.Status.TheVariants.{ReadFault, WriteFault}

-- A side's count never falls and keeps its bound. A fault is answered only where that side's count rose, or stands at its last value. Steps never fall.
pub record HasCauses {S W : Type 0} (read_faults : S → ℕ) (read_bound : S → Option ℕ) (write_faults : W → ℕ) (write_bound : W → Option ℕ)
    (source_old source_new : S) (sink_old sink_new : W) (steps_old steps_new : ℕ) (status : Status) : Type 0 where
  pub reads : KeepsCount read_faults read_bound source_old source_new (status ≡ ReadFault)
  pub writes : KeepsCount write_faults write_bound sink_old sink_new (status ≡ WriteFault)
  pub later : steps_old ≤ steps_new
