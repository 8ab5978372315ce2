-- None of the first is wrong.
use Rattle.cu_pack.specs.Checks.{IsWrongArc, NoneWrong}
use Rattle.cu_pack.proofs.checks.roads.wrong_arc.Given as goal

abbrev pub invariant-loop-arc : goal.invariant-loop-arc
invariant-loop-arc l = NoneWrong (IsWrongArc l.sections) l.arc
