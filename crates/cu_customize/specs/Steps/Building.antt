-- What is customized.
use Rattle.std.specs.Prelude.{ℕ, ◌≡◌, ◌<◌}
use Rattle.cu_model.specs.Networks.{IsNetwork}
use Rattle.cu_model.specs.Orders.{IsOrder}
use Rattle.cu_model.specs.Days.{day}
use Rattle.cu_arrival.specs.Runs.{arrival_value}
use Rattle.cu_chordal.specs.Edges.{IsClosureOf}
use Rattle.cu_chordal.specs.Graphs.{IsChordal}
use Rattle.cu_interval.specs.EdgeArcs.{AreEdgeArcs}
use Rattle.cu_customize.specs.declared.customizing.Parts.{Parts}
use Rattle.cu_runs.specs.PackedRuns.{IsPackedFunction}

-- a network and an order, their chordal graph and the roads of its edges; and staying
pub record AreParts (parts : Parts) : Type 0 where
  pub network : IsNetwork parts.network.now
  pub order : IsOrder parts.order.now
  pub chordal : IsChordal parts.graph.now
  pub closed : IsClosureOf parts.network.now parts.order.now parts.graph.now
  pub arcs : AreEdgeArcs parts.network.now parts.order.now parts.graph.now.edges parts.arcs.now
  pub stays : IsPackedFunction parts.stay.now
  pub stay : (t : ℕ) → t < day → arrival_value parts.stay.now t ≡ t
