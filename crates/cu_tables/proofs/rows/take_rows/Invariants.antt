use Rattle.std.proofs.Common.{◌++◌, ℕ, List}
use Rattle.cu_tables.specs.Steps.Reads.{HasRead}
use Rattle.cu_tables.specs.Taking.{TakesAll}
use Rattle.cu_tables.proofs.rows.take_rows.Given as goal

abbrev pub invariant-loop : goal.invariant-loop
invariant-loop g l = (text : List ℕ) → (done : List (List (List ℕ))) → HasRead l.fn.rows text done
    → (body : List (List (List ℕ))) × HasRead l.rows text (done ++ body) × TakesAll g.T.TakesRows.takes l.fn.taker body l.taker
