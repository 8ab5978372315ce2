-- The relaxer stands for the same hierarchy after each question.
use Rattle.std.proofs.Common.{◌≡◌}
use Rattle.tests_files.proofs.recalls.answers.Given as goal

abbrev pub invariant-rows : goal.invariant-rows
invariant-rows g l = g.R.Relaxer.hierarchy l.relaxer ≡ g.R.Relaxer.hierarchy l.fn.relaxer
