-- None of the first is wrong.
use Rattle.cu_pack.specs.Checks.{IsWrongRank, NoneWrong}
use Rattle.cu_pack.proofs.checks.order.wrong_rank.Given as goal

abbrev pub invariant-loop-rank : goal.invariant-loop-rank
invariant-loop-rank l = NoneWrong (IsWrongRank l.sections) l.rank
