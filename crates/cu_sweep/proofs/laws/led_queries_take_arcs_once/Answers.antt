use Rattle.cu_interval.specs.declared.ways.Dir.TheVariants.{Up, Down}
use Rattle.cu_sweep.proofs.SomeArcs.{some_down_once, some_up_once}
use Rattle.cu_sweep.proofs.Ways.{leads_once}
use Rattle.cu_sweep.proofs.laws.led_queries_take_arcs_once.Goals as goal

pub returns-clause-up : goal.returns-clause-up
returns-clause-up c h from arcs f some = some_up_once h from arcs f some

pub returns-clause-down : goal.returns-clause-down
returns-clause-down c h to arcs f some = some_down_once h to arcs f some

pub returns-clause-way_up : goal.returns-clause-way_up
returns-clause-way_up c h from top arcs f leads = leads_once h from Up from arcs top f leads

pub returns-clause-way_down : goal.returns-clause-way_down
returns-clause-way_down c h to top last arcs f leads = leads_once h to Down top arcs last f leads
