-- A trial under way.
use Rattle.std.specs.Prelude.{◌≡◌, ◌<◌, ◌≤◌, ◌*◌, ◌^◌, length}
use Rattle.cu_model.specs.Networks.{NetworkValue}
use Rattle.cu_model.specs.Orders.{OrderValue}
use Rattle.cu_chordal.specs.Edges.{HasTooManyEdges}
use Rattle.cu_cli.specs.declared.commands.trial.Tally.{Tally}
use Rattle.cu_cli.specs.declared.stops.Stop.{Stop}
use Rattle.cu_cli.specs.declared.stops.Stop.TheVariants as stop
use Rattle.cu_cli.specs.Trials.{IsGridOrder, TrialValue}
use Rattle.cu_cli.specs.Words.{GridAsked, grid_read}

-- where a trial stands over a network
abbrev pub standing : NetworkValue → Tally → TrialValue
standing g tally = record {
  state = tally.draws;
  network = g;
  reached = tally.reached;
  sum = tally.sum;
  edits = tally.edits;
  touched = tally.touched;
}

-- no sum is past what so many queries and edits give
pub record IsSmall (tally : Tally) : Type 0 where
  pub sum : tally.sum ≤ tally.reached * 2 ^ 39
  pub touched : tally.touched ≤ tally.edits * 2 ^ 32

-- a network that has nodes to draw, and the profiles of a grid
pub record IsDrawable (g : NetworkValue) : Type 0 where
  pub nodes : 0 < g.nodes
  pub profiles : length g.profiles ≡ 64

-- the hierarchy of a grid isn't built: its graph has too many edges, or memory ran out
abbrev pub StopsGrid : GridAsked → Stop → Type 0
StopsGrid grid stop.TooManyEdges =
    (order : OrderValue) × IsGridOrder grid order × HasTooManyEdges (grid_read grid).network order
StopsGrid grid stop.NoMemory = Unit {0}
StopsGrid grid _ = ⊥
