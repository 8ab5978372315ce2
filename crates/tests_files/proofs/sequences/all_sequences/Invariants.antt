use Rattle.cu_sequences.specs.Kept.{AreSequences}
use Rattle.tests_files.proofs.sequences.all_sequences.Given as goal

abbrev pub invariant-edges : goal.invariant-edges
invariant-edges l = AreSequences l.view l.sequences
