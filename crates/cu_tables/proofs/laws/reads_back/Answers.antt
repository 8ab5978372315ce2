use Rattle.cu_tables.proofs.Round.{table_of_none, table_of_rows}
use Rattle.cu_tables.proofs.laws.reads_back.Goals as goal

pub returns-clause-none : goal.returns-clause-none
returns-clause-none c = table_of_none

pub returns-clause-some : goal.returns-clause-some
returns-clause-some c = table_of_rows
