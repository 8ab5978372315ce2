use Rattle.std.proofs.Common.{◌≡◌, map, take}
use Rattle.cu_customize.specs.Steps.Gathering.{read_of, said_by, ways_of}
use Rattle.cu_customize.proofs.pulling.entries_of.Given as goal

abbrev pub invariant-loop-run : goal.invariant-loop-run
invariant-loop-run l = map said_by l.entries.items ≡ map (read_of (ways_of l.task)) (take l.run-index l.runs)
