-- What files in memory and an output in memory hold, and how their calls are counted.
use Rattle.std.specs.Prelude.{◌≡◌, ◌≤◌, ◌⊎◌, ℕ, ◌-◌, List, Option, Contains, length}
use Rattle.pe_outside.specs.Outside.{next_count}
use Rattle.pe_outside.specs.Named.{bytes_named}
use Rattle.pe_outside.specs.declared.memory.MemFiles.{MemFiles}
use Rattle.pe_outside.specs.declared.memory.MemSink.{MemSink}

-- the names and bytes, in order
abbrev pub files_of : MemFiles → List (List ℕ × List ℕ)
files_of m = m.files

-- the bytes of a name, if it is held
abbrev pub file_named : MemFiles → List ℕ → Option (List ℕ)
file_named m name = bytes_named m.files name

-- the most bytes that one call places
abbrev pub files_piece : MemFiles → ℕ
files_piece m = m.piece

-- the numbers of the calls that are to fail
abbrev pub files_fails : MemFiles → List ℕ
files_fails m = m.plan.fails

-- how many calls were made, and how many of them failed
abbrev pub files_calls : MemFiles → ℕ
files_calls m = m.plan.calls

abbrev pub files_faults : MemFiles → ℕ
files_faults m = m.plan.faults

-- the next call is to fail
abbrev pub FilesFailNext : MemFiles → Type 0
FilesFailNext m = Contains m.plan.fails (next_count m.plan.calls)

-- what a call leaves as it was
abbrev pub KeepsFiles : MemFiles → MemFiles → Type 0
KeepsFiles old new = (new.files ≡ old.files) × (new.piece ≡ old.piece) × (new.plan.fails ≡ old.plan.fails)

-- the bytes that were written
abbrev pub sink_bytes : MemSink → List ℕ
sink_bytes s = s.bytes.items

-- the most bytes that it holds, and the most that one call takes
abbrev pub sink_room : MemSink → ℕ
sink_room s = s.room

abbrev pub sink_piece : MemSink → ℕ
sink_piece s = s.piece

-- how many more it holds
abbrev pub sink_left : MemSink → ℕ
sink_left s = s.room - length s.bytes.items

-- the numbers of the calls that are to fail
abbrev pub sink_fails : MemSink → List ℕ
sink_fails s = s.plan.fails

-- how many calls were made, and how many of them failed
abbrev pub sink_calls : MemSink → ℕ
sink_calls s = s.plan.calls

abbrev pub sink_faults : MemSink → ℕ
sink_faults s = s.plan.faults

-- the next write is to fail, or finds no room
abbrev pub SinkFailsNext : MemSink → Type 0
SinkFailsNext s = Contains s.plan.fails (next_count s.plan.calls) ⊎ (s.room ≤ length s.bytes.items)

-- what a call leaves as it was
abbrev pub KeepsSink : MemSink → MemSink → Type 0
KeepsSink old new = (new.room ≡ old.room) × (new.piece ≡ old.piece) × (new.plan.fails ≡ old.plan.fails)
