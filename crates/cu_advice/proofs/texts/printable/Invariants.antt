-- All bytes so far are printable.
use Rattle.std.proofs.Common.{◌≤◌, All}
use Rattle.cu_advice.proofs.texts.printable.Given as goal

abbrev pub invariant-loop-byte : goal.invariant-loop-byte
invariant-loop-byte l = All (λ byte. 32 ≤ byte) l.bytes.items
