use Rattle.cu_roads.proofs.GridLaws.{ends_by_rows, place_by_rows}
use Rattle.cu_roads.proofs.grids.grid_by_rows.Goals as goal

pub returns-clause-place : goal.returns-clause-place
returns-clause-place c = place_by_rows

pub returns-clause-roads : goal.returns-clause-roads
returns-clause-roads c = ends_by_rows
