-- A source and a sink in memory, and the faults that they are to have, which are counted in a `u64`.
use Rattle.std.specs.Prelude.{ℕ, ◌+◌, ◌-◌, ◌^◌, ◌<◌, ◌==◌, min, Bool, List, length, drop, Some, None, if◌then◌else◌}
use Rattle.std.specs.{Prelude.{nat_le, ◌&&◌, ◌||◌, not, [], ◌++◌, take}, List.list_any, declared.option.Option.Option}

-- The count rose. It stands still at 2^64 - 1, the end of a `u64`: there this claims nothing.
abbrev pub Rose : ℕ → ℕ → Type 0
Rose old new = old < 2 ^ 64 - 1 → old < new

-- the count after n: one more, and 2^64 - 1 again after that
abbrev pub saturating_next : ℕ → ℕ
saturating_next n = min (n + 1) (2 ^ 64 - 1)

-- Whether the call after that many calls is one of those that fail. Calls are numbered from 1, and
-- each after number 2^64 - 1 has that number too.
abbrev pub fails_next : List ℕ → ℕ → Bool
fails_next fails calls = list_any (λ number. number == saturating_next calls) fails

-- The bytes that are left, how many a call gives at most, the numbers of the calls that fail, how
-- many calls there were, and how many failed. The last two stop at 2^64 - 1.
pub record SourceState : Type 0 where
  pub left : List ℕ
  pub chunk : ℕ
  pub fails : List ℕ
  pub calls : ℕ
  pub faults : ℕ

-- a source before its first call
abbrev pub new_source : List ℕ → ℕ → List ℕ → SourceState
new_source bytes chunk fails =
    record { left = bytes; chunk = chunk; fails = fails; calls = 0; faults = 0 }

-- how many bytes a read gives to a buffer of that length if it doesn't fail
abbrev pub given_count : SourceState → ℕ → ℕ
given_count s space = min (min s.chunk space) (length s.left)

-- how many bytes the next read gives to a buffer of that length, or `None` if it fails
abbrev pub count_read : SourceState → ℕ → Option ℕ
count_read s space = if fails_next s.fails s.calls then None else Some (given_count s space)

-- the source after a read into a buffer of that length
abbrev pub after_read : SourceState → ℕ → SourceState
after_read s space =
    if fails_next s.fails s.calls
    then record s { calls = saturating_next s.calls; faults = saturating_next s.faults }
    else record s { left = drop (given_count s space) s.left; calls = saturating_next s.calls }

-- none of its calls fails
abbrev pub source_never_fails : SourceState → Bool
source_never_fails s = length s.fails == 0

-- The bytes that were taken, for how many more there is room, how many a call takes at most, the
-- numbers of the calls that fail, how many calls there were, and how many failed. The last two stop
-- at 2^64 - 1.
pub record SinkState : Type 0 where
  pub taken : List ℕ
  pub room : ℕ
  pub chunk : ℕ
  pub fails : List ℕ
  pub calls : ℕ
  pub faults : ℕ

-- a sink before its first call
abbrev pub new_sink : ℕ → List ℕ → SinkState
new_sink chunk fails =
    record { taken = []; room = 0; chunk = chunk; fails = fails; calls = 0; faults = 0 }

-- whether the next write of that many bytes fails: by its number, or since no room is left
abbrev pub write_fails : SinkState → ℕ → Bool
write_fails s len = fails_next s.fails s.calls || (s.room == 0 && not (len == 0))

-- how many of that many bytes a write takes that does not fail
abbrev pub taken_count : SinkState → ℕ → ℕ
taken_count s len = min (min s.chunk len) s.room

-- how many of that many bytes the next write takes, or `None` if it fails
abbrev pub count_written : SinkState → ℕ → Option ℕ
count_written s len = if write_fails s len then None else Some (taken_count s len)

-- the sink after a write of these bytes
abbrev pub after_write : SinkState → List ℕ → SinkState
after_write s bytes =
    if write_fails s (length bytes)
    then record s { calls = saturating_next s.calls; faults = saturating_next s.faults }
    else record s {
      taken = s.taken ++ take (taken_count s (length bytes)) bytes;
      room = s.room - taken_count s (length bytes);
      calls = saturating_next s.calls;
    }

-- it takes this many more bytes, and none of its calls fails
abbrev pub sink_has_room : SinkState → ℕ → Bool
sink_has_room s n = (length s.fails == 0) && nat_le n s.room
