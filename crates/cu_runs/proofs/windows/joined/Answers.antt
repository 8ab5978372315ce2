use Rattle.std.proofs.Common.{arith, inl, inr}
use Rattle.std.proofs.lemmas.Bool.{cases_lt}
use Rattle.cu_runs.proofs.windows.joined.Goals as goal

pub returns : goal.returns
returns c f from middle until before behind = record {
  slower = λ t late early. elim (cases_lt t middle) [
    | inl lt ↦ let takes = before.slower t late lt in omega (arith, takes, c.min.ensures)
    | inr ge ↦ let takes = behind.slower t ge early in omega (arith, takes, c.min.ensures)
  ];
  faster = λ known t late early. elim (cases_lt t middle) [
    | inl lt ↦ let takes = before.faster (omega (arith, known, c.max.ensures)) t late lt in omega (arith, takes, c.max.ensures)
    | inr ge ↦ let takes = behind.faster (omega (arith, known, c.max.ensures)) t ge early in omega (arith, takes, c.max.ensures)
  ];
}
