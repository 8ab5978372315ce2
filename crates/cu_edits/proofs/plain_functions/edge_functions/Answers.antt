use Rattle.cu_interval.specs.declared.ways.Dir.{Dir}
use Rattle.cu_interval.specs.declared.ways.Dir.TheVariants.{Down, Up}
use Rattle.cu_edits.specs.Steps.Known.{function_in}
use Rattle.cu_edits.specs.Steps.TurningPlain.{SaysList}
use Rattle.cu_edits.proofs.plain_functions.edge_functions.Goals as goal

pub returns-clause-functions : goal.returns-clause-functions
returns-clause-functions g c dir =
    elim dir as (λ (d : Dir). SaysList c.args.parts.now.before c.args.moved.now c.args.edge d (function_in (record { up = c.in_ok-up.up; down = c.in_ok-down.down }) d)) [
      | Up ↦ c.in_ok-up.ensures.function
      | Down ↦ c.in_ok-down.ensures.function
    ]
