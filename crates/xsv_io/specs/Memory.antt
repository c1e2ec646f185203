-- What contracts see of a source and a sink in memory.
use Rattle.std.specs.Prelude.{ℕ, ◌+◌, ◌-◌, ◌^◌, min, List, drop, Contains}
use Rattle.xsv_io.specs.declared.memory.MemSource.{MemSource}
use Rattle.xsv_io.specs.declared.memory.MemSink.{MemSink}

-- the bytes that are left
abbrev pub source_rest : MemSource → List ℕ
source_rest s = drop s.at s.bytes.items

-- the greatest number of bytes that a read gives
abbrev pub source_piece : MemSource → ℕ
source_piece s = s.piece

-- the numbers of the calls that are to fail, counted from 1
abbrev pub source_fails : MemSource → List ℕ
source_fails s = s.script.fails.items

-- how many calls were made, up to the last value
abbrev pub source_calls : MemSource → ℕ
source_calls s = s.script.calls

-- the bytes that were taken
abbrev pub sink_taken : MemSink → List ℕ
sink_taken s = s.taken.items

-- how many bytes it may hold
abbrev pub sink_room : MemSink → ℕ
sink_room s = s.room

-- the numbers of the calls that are to fail, counted from 1
abbrev pub sink_fails : MemSink → List ℕ
sink_fails s = s.script.fails.items

-- how many calls were made, up to the last value
abbrev pub sink_calls : MemSink → ℕ
sink_calls s = s.script.calls

-- the number of the call after so many others, up to the last value
abbrev pub next_call : ℕ → ℕ
next_call calls = min (calls + 1) (2 ^ 32 - 1)

-- the call after so many others is to fail
abbrev pub IsToFail : List ℕ → ℕ → Type 0
IsToFail fails calls = Contains fails (next_call calls)
