-- The calls from so many higher neighbours were made.
use Rattle.std.proofs.Common.{◌≡◌, ◌≢◌, ◌+◌, ℕ, List, take, false}
use Rattle.std.specs.List.{Contains}
use Rattle.cu_chordal.specs.Graphs.{HasEdge, first_edge_of, up_of}
use Rattle.cu_interval.specs.Hierarchies.{number_from}
use Rattle.cu_sweep.specs.Places.{second_at}
use Rattle.cu_sweep.specs.Swept.{IsPassed}
use Rattle.cu_sweep.specs.Steps.Made.{Led, down_call, sweep_of}
use Rattle.cu_sweep.specs.Steps.Ready.{IsReadyBy}
use Rattle.cu_sweep.specs.Steps.Sweeping.{IsDownSwept}
use Rattle.cu_sweep.proofs.DownRows.{IsDownPart}
use Rattle.cu_sweep.proofs.Rows.{IsRow}
use Rattle.cu_sweep.proofs.sweeping.lead_to.Given as goal

abbrev pub invariant-edges : goal.invariant-edges
invariant-edges g l =
    let h = g.R.Relaxer.hierarchy l.fn.relaxer in
    let n = h.network.nodes in
    record {
      ready : IsReadyBy g.K.Linking.links g.K.Linking.turned n l.labels l.chain;
      unturned : g.K.Linking.turned l.chain ≡ false;
      stays : g.R.Relaxer.hierarchy l.relaxer ≡ h;
      highers : l.highers ≡ up_of h.edges l.fn.below.rank;
      edge : l.edge ≡ first_edge_of h.edges l.fn.below.rank + l.higher-index;
      nodes : l.nodes ≡ n;
      source : (y : ℕ) → y ≢ l.fn.below.rank → second_at l.labels (n + y) ≡ second_at l.fn.labels (n + y);
      swept : (q : Led) (done : List ℕ) → IsDownSwept h q done l.fn.labels (g.K.Linking.links l.fn.chain) → IsPassed h (sweep_of q) l.fn.below.rank
          → ((y : ℕ) → HasEdge h.edges l.fn.below.rank y → Contains done y) → q.allows ≡ g.L.Limits.allows l.fn.limits
          → IsDownPart h q done l.fn.below.rank (take l.higher-index l.highers) l.labels (g.K.Linking.links l.chain)
          × IsRow h (λ y. down_call h q l.fn.below.rank y (number_from 0 h.edges l.fn.below.rank y))
          (take l.higher-index l.highers) (g.R.Relaxer.calls l.fn.relaxer) (g.R.Relaxer.calls l.relaxer);
    }
