-- What was read so far is within the limit, and the reader gave it with no fault.
use Rattle.std.proofs.Common.{◌≡◌, ◌++◌, ◌≤◌, ◌-◌, ℕ, List, length}
use Rattle.std.specs.Io.KnownBytes.{Consumes}
use Rattle.cu_io.specs.declared.disk.TheConstants.{LIMIT}
use Rattle.cu_io.proofs.disk.read_whole.Given as goal

abbrev pub invariant-loop-count : goal.invariant-loop-count
invariant-loop-count g l =
    (length l.into.items ≤ LIMIT) × (read : List ℕ) × (l.into.items ≡ l.fn.into.items ++ read)
    × Consumes (g.R.Read.remaining l.fn.reader) (g.R.Read.remaining l.reader) read × (l.faults ≡ l.fn.faults)

abbrev pub decreases-loop-count : goal.decreases-loop-count
decreases-loop-count g l = LIMIT - length l.into.items
