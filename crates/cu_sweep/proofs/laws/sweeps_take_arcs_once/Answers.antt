use Rattle.cu_sweep.proofs.ArcsOnce.{all_once, down_once, up_once}
use Rattle.cu_sweep.proofs.laws.sweeps_take_arcs_once.Goals as goal

pub returns-clause-up : goal.returns-clause-up
returns-clause-up c = up_once

pub returns-clause-down : goal.returns-clause-down
returns-clause-down c = down_once

pub returns-clause-all : goal.returns-clause-all
returns-clause-all c = all_once
