-- The flushes so far left the bytes as they were.
use Rattle.std.specs.Io.KnownBytes.{Keeps}
use Rattle.cu_io.proofs.standard.flush_all.Given as goal

abbrev pub invariant-loop : goal.invariant-loop
invariant-loop g l = Keeps (g.W.Write.contents l.fn.writer) (g.W.Write.contents l.writer)
