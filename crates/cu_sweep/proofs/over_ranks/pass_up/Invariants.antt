-- The calls from these ancestors were made.
use Rattle.std.proofs.Common.{◌≡◌, [], None, false}
use Rattle.cu_elimtree.specs.SweepArcs.{ancestors_in}
use Rattle.cu_sweep.specs.Sweeps.{AddsAll, first_long}
use Rattle.cu_sweep.specs.Steps.Made.{Led, up_calls_of}
use Rattle.cu_sweep.specs.Steps.Ready.{IsReadyBy}
use Rattle.cu_sweep.specs.Steps.Sweeping.{IsUpSwept}
use Rattle.cu_sweep.proofs.over_ranks.pass_up.Given as goal

abbrev pub invariant-ranks : goal.invariant-ranks
invariant-ranks g l =
    let h = g.R.Relaxer.hierarchy l.fn.relaxer in
    record {
      ready : IsReadyBy g.K.Linking.links g.K.Linking.turned l.fn.graph.ranks l.labels l.chain;
      unturned : g.K.Linking.turned l.chain ≡ false;
      stays : g.R.Relaxer.hierarchy l.relaxer ≡ h;
      swept : (q : Led) → ancestors_in l.fn.graph q.from ≡ l.fn.ancestors → q.allows ≡ g.L.Limits.allows l.fn.limits → IsUpSwept h q [] l.fn.labels (g.K.Linking.links l.fn.chain)
          → IsUpSwept h q l.yielded l.labels (g.K.Linking.links l.chain) × (first_long h (up_calls_of h q l.yielded) ≡ None)
          × AddsAll (g.R.Relaxer.calls l.fn.relaxer) (g.R.Relaxer.calls l.relaxer) (up_calls_of h q l.yielded);
    }
