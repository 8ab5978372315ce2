use Rattle.csv.specs.Records.{fields_of}
use Rattle.cu_tables.proofs.ReadFacts.{reads}
use Rattle.cu_tables.proofs.rows.next_row.Goals as goal

pub returns : goal.returns
returns c = λ text done h.
    reads c.args.rows.now c.read_byte_record.new.self text done (fields_of c.read_byte_record.new.row) c.in-Ok.found h
    (c.in-Ok.ensures.reads h.trim h.ready) (c.in-Ok.ensures.ready h.trim) c.in-Ok.ensures.flexible
