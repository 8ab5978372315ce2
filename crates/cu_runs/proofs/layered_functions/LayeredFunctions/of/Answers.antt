use Rattle.cu_runs.proofs.Layers.{layered_same}
use Rattle.cu_runs.proofs.layered_functions.LayeredFunctions.of.Goals as goal

pub returns : goal.returns
returns c = layered_same c.args.functions.now _
