use Rattle.std.proofs.Common.{Bor, List, ℕ, [], ap, map}
use Rattle.csv.specs.Records.{fields_of}
use Rattle.cu_tables.specs.Tables.{rows_below}
use Rattle.cu_tables.proofs.ReadFacts.{reads_header}
use Rattle.cu_tables.proofs.rows.take_header.Goals as goal

pub returns-then-branch : goal.returns-then-branch
returns-then-branch c = λ text h.
    reads_header c.next_row.new.rows text (map (λ (f : Bor (List ℕ)). f.now) c.args.header.now) (fields_of c.next_row.new.row) c.has_fields.result
    (rw c.if-branch.true at (c.in_ok-next_row.ensures text [] h)) c.has_fields.ensures

pub returns-else-branch : goal.returns-else-branch
returns-else-branch c = λ text h.
    ap (rows_below (map (λ (f : Bor (List ℕ)). f.now) c.args.header.now)) (rw c.if-branch.false at (c.in_ok-next_row.ensures text [] h))
