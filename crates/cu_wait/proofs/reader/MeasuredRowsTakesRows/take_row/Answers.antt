use Rattle.csv.specs.Records.{fields_of}
use Rattle.cu_wait.proofs.ReadLaws.{takes_row}
use Rattle.cu_wait.proofs.reader.MeasuredRowsTakesRows.take_row.Goals as goal

pub returns-clause-taken : goal.returns-clause-taken
returns-clause-taken c =
    takes_row c.args.self.now c.begin_row.new.self c.add_row.new.self (fields_of c.args.row.now) c.in-Ok.line c.in-Ok.ensures.checked
    c.in_ok-begin_row.ensures c.in_ok-add_row.ensures
