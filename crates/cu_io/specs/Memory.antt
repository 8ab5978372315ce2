-- What the objects in memory are, as plain data. Their calls are numbered from 0, and those named fail.
use Rattle.std.specs.Prelude.{ℕ, ◌-◌, Bool, ◌&&◌, ◌||◌, ◌==◌, List, length, nat_lt}
use Rattle.std.specs.List.{list_any}
use Rattle.cu_io.specs.Counts.{one_more}

-- the numbers of the calls that fail, and the number of the next call
pub record CallList : Type 0 where
  pub fails : List ℕ
  pub next : ℕ

-- the next call fails
abbrev pub is_failing : CallList → Bool
is_failing calls = list_any (λ number. number == calls.next) calls.fails

-- after one more call
abbrev pub after_call : CallList → CallList
after_call calls = record calls { next = one_more calls.next }

-- a source in memory: the bytes left, the most bytes that a read gives, the faults met, and its calls
pub record MemorySourceState : Type 0 where
  pub left : List ℕ
  pub most : ℕ
  pub faults : ℕ
  pub calls : CallList

-- a sink in memory: the bytes written, how many of them were flushed, for how many there is room, the faults met, and its calls
pub record MemorySinkState : Type 0 where
  pub written : List ℕ
  pub flushed : ℕ
  pub room : ℕ
  pub faults : ℕ
  pub calls : CallList

-- how many more bytes the sink can take
abbrev pub space : MemorySinkState → ℕ
space sink = sink.room - length sink.written

-- a write of this many bytes fails: the call is named, or no space is left for any of them
abbrev pub is_refusing : MemorySinkState → ℕ → Bool
is_refusing sink count = is_failing sink.calls || (nat_lt 0 count && (space sink == 0))
