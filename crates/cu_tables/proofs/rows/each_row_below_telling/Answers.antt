use Rattle.std.proofs.Common.{Bor, List, ℕ, map, refl}
use Rattle.std.proofs.lemmas.Result.{IfOk-weaker}
use Rattle.cu_tables.specs.Taking.{Ends}
use Rattle.cu_tables.proofs.ReadFacts.{below_header}
use Rattle.cu_tables.proofs.rows.each_row_below_telling.Goals as goal

pub returns-then-not-branch : goal.returns-then-not-branch
returns-then-not-branch g c = rw (rw c.if-not-branch.true at (c.in_ok-take_header.ensures c.args.text.now c.rows_of-rows.ensures)) (refl, refl)

pub returns : goal.returns
returns g c = IfOk-weaker c.take_rows.result _ _
    (λ answer h.
    let (rows, found, ends) = below_header (λ rows. Ends g.T.TakesRows.takes g.T.TakesRows.refuses c.args.taker.now rows c.take_rows.new.taker answer)
    c.take_header.new.rows c.args.text.now (map (λ (f : Bor (List ℕ)). f.now) c.args.header.now)
    (rw c.if-not-branch.false at (c.in_ok-take_header.ensures c.args.text.now c.rows_of-rows.ensures)) h in
    rw found ends)
    c.take_rows.ensures
