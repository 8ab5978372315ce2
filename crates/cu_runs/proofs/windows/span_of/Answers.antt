use Rattle.std.proofs.Common.{arith}
use Rattle.cu_runs.proofs.windows.span_of.Goals as goal

pub returns : goal.returns
returns c f from until takes takes_up = record {
  slower = λ t late early. let one = takes t late early in omega (arith, one, c.short.ensures);
  faster = λ known t late early. let one = takes_up t late early in omega (arith, one, c.short-2.ensures, known);
}
