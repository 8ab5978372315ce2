use Rattle.std.proofs.Common.{sym}
use Rattle.cu_roads.proofs.GridCounts.{grid_count}
use Rattle.cu_roads.proofs.grids.grid_roads.Goals as goal

pub returns : goal.returns
returns c = λ start. sym (grid_count start c.args.width c.args.height c.requires.width.0 c.requires.height.0)
