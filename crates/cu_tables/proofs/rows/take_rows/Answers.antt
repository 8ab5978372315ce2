use Rattle.std.proofs.Common.{◌∙◌, ◌++◌, ◌∷◌, [], refl, append_assoc}
use Rattle.std.proofs.lemmas.List.{append-nil}
use Rattle.csv.specs.Records.{fields_of}
use Rattle.cu_tables.proofs.TakingFacts.{takes_more}
use Rattle.cu_tables.proofs.rows.take_rows.Goals as goal

pub loop-init : goal.loop-init
loop-init g c = λ text done h. ([], rw (append-nil done) h, refl)

pub returns-then-not-branch : goal.returns-then-not-branch
returns-then-not-branch g c = λ text done h.
    let (body, read, taken) = c.loop.invariant text done h in
    (body, rw c.if-not-branch.true at (c.in_ok-next_row.ensures text (done ++ body) read), taken)

pub returns-in-Err : goal.returns-in-Err
returns-in-Err g c = λ text done h.
    let (body, read, taken) = c.loop.invariant text done h in
    let r = rw c.if-not-branch.false at (c.in_ok-next_row.ensures text (done ++ body) read) in
    let row = fields_of c.next_row.new.row in (
      body ++ (row ∷ r.1.0),
      r.1.1 ∙ append_assoc done body (row ∷ r.1.0),
      (body, row, r.1.0, c.loop.taker, refl, taken, rw c.in-Err.is at c.in_ok-take_row.ensures.refused),
    )

pub loop-preserved : goal.loop-preserved
loop-preserved g c = λ text done h.
    let (body, read, taken) = c.loop.invariant text done h in
    let r = rw c.if-not-branch.false at (c.in_ok-next_row.ensures text (done ++ body) read) in
    let row = fields_of c.next_row.new.row in (
      body ++ (row ∷ []),
      rw (← append_assoc done body (row ∷ [])) r.0,
      takes_more g.T.TakesRows.takes c.args.taker.now c.loop.taker c.take_row.new.self body row taken (rw c.in-Ok.is at c.in_ok-take_row.ensures.taken),
    )
