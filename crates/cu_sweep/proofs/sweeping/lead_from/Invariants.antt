-- The calls to so many higher neighbours were made.
use Rattle.std.proofs.Common.{◌≡◌, ◌+◌, ℕ, List, take, false}
use Rattle.std.specs.List.{Contains}
use Rattle.cu_chordal.specs.Graphs.{first_edge_of, up_of}
use Rattle.cu_interval.specs.declared.ways.Dir.TheVariants.{Up}
use Rattle.cu_interval.specs.Hierarchies.{number_from}
use Rattle.cu_sweep.specs.Places.{second_at}
use Rattle.cu_sweep.specs.Swept.{IsPassed}
use Rattle.cu_sweep.specs.Steps.Made.{Led, made_up_after, sweep_of, up_made}
use Rattle.cu_sweep.specs.Steps.Ready.{IsReadyBy}
use Rattle.cu_sweep.specs.Steps.Sweeping.{IsUpSwept, call_into}
use Rattle.cu_sweep.proofs.UpRows.{IsUpPart}
use Rattle.cu_sweep.proofs.Rows.{IsRow}
use Rattle.cu_sweep.proofs.sweeping.lead_from.Given as goal

abbrev pub invariant-edges : goal.invariant-edges
invariant-edges g l =
    let h = g.R.Relaxer.hierarchy l.fn.relaxer in
    record {
      ready : IsReadyBy g.K.Linking.links g.K.Linking.turned l.fn.graph.ranks l.labels l.chain;
      unturned : g.K.Linking.turned l.chain ≡ false;
      stays : g.R.Relaxer.hierarchy l.relaxer ≡ h;
      highers : l.highers ≡ up_of h.edges l.fn.rank;
      edge : l.edge ≡ first_edge_of h.edges l.fn.rank + l.higher-index;
      source : second_at l.labels l.fn.rank ≡ second_at l.fn.labels l.fn.rank;
      rest : (z : ℕ) → (Contains (take l.higher-index l.highers) z → ⊥) → second_at l.labels z ≡ second_at l.fn.labels z;
      row : IsRow h (λ y. call_into h (g.L.Limits.allows l.fn.limits) l.fn.labels (number_from 0 h.edges l.fn.rank y) Up l.fn.rank y) (take l.higher-index l.highers)
          (g.R.Relaxer.calls l.fn.relaxer) (g.R.Relaxer.calls l.relaxer);
      swept : (q : Led) (done : List ℕ) → IsUpSwept h q done l.fn.labels (g.K.Linking.links l.fn.chain) → IsPassed h (sweep_of q) l.fn.rank
          → made_up_after h q done l.fn.rank ≡ up_made h q l.fn.rank → q.allows ≡ g.L.Limits.allows l.fn.limits
          → IsUpPart h q done l.fn.rank (take l.higher-index l.highers) l.labels (g.K.Linking.links l.chain);
    }
