-- The writes so far wrote nothing.
use Rattle.std.specs.Io.KnownBytes.{Keeps}
use Rattle.cu_io.proofs.standard.write_once.Given as goal

abbrev pub invariant-loop : goal.invariant-loop
invariant-loop g l = Keeps (g.W.Write.contents l.fn.writer) (g.W.Write.contents l.writer)
