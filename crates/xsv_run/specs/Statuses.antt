-- How a run ends, by how its stream does, and the numbers that the program ends with.
use Rattle.std.specs.Prelude.{ℕ, Bool, true, false, Result, Ok, Err}
use Rattle.told.specs.declared.break_off.BreakOff.{BreakOff}
use Rattle.told.specs.declared.break_off.BreakOff.TheVariants as breaks
use Rattle.told.specs.declared.ending.Ending.{Ending}
use Rattle.told.specs.declared.ending.Ending.TheVariants as endings
use Rattle.xsv_run.specs.declared.status.Status.{Status}
use Rattle.xsv_run.specs.declared.status.Status.TheVariants.{Valid, NotValid, SchemaRefused, ListingRefused, Limit, Unsupported, Words, ReadFault, WriteFault, Memory}

abbrev pub number_of : Status → ℕ
number_of Valid = 0
number_of NotValid = 1
number_of SchemaRefused = 2
number_of ListingRefused = 3
number_of Limit = 4
number_of Unsupported = 5
number_of Words = 6
number_of ReadFault = 7
number_of WriteFault = 8
number_of Memory = 9

-- a status that is no answer
abbrev pub is_broken : Status → Bool
is_broken ReadFault = true
is_broken WriteFault = true
is_broken Memory = true
is_broken status = false

abbrev pub status_of : Ending → Status
status_of endings.Valid = Valid
status_of endings.NotValid = NotValid
status_of endings.SchemaRefused = SchemaRefused
status_of endings.ListingRefused = ListingRefused
status_of endings.Limit = Limit
status_of endings.Unsupported = Unsupported

abbrev pub status_by : Result Ending BreakOff → Status
status_by (Ok ending) = status_of ending
status_by (Err breaks.Memory) = Memory
status_by (Err breaks.WriteFault) = WriteFault
