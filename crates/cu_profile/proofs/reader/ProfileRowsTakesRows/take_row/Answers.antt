use Rattle.csv.specs.Records.{fields_of}
use Rattle.cu_profile.proofs.RowFacts.{takes_row}
use Rattle.cu_profile.proofs.reader.ProfileRowsTakesRows.take_row.Goals as goal

pub returns-clause-taken : goal.returns-clause-taken
returns-clause-taken c = λ between.
    let (passed, profile, piece) = c.in-Ok.ensures.checked between.small in
    takes_row c.args.self.now c.begin_row.new.self c.add_row.new.self (fields_of c.args.row.now) c.in-Ok.line passed profile piece
    c.in_ok-begin_row.ensures c.in_ok-add_row.ensures between
