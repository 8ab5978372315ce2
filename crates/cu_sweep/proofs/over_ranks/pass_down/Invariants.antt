-- The calls to the ranks behind this place were made, the last first.
use Rattle.std.proofs.Common.{◌≡◌, ◌≤◌, [], None, false, length, drop, reverse}
use Rattle.cu_sweep.specs.Sweeps.{AddsAll, first_long}
use Rattle.cu_sweep.specs.Steps.Made.{Led, down_calls_of}
use Rattle.cu_sweep.specs.Steps.Ready.{IsReadyBy}
use Rattle.cu_sweep.specs.Steps.Sweeping.{IsDownSwept}
use Rattle.cu_sweep.proofs.PassedOver.{NoneSooner}
use Rattle.cu_sweep.proofs.over_ranks.pass_down.Given as goal

abbrev pub invariant-ranks : goal.invariant-ranks
invariant-ranks g l =
    let h = g.R.Relaxer.hierarchy l.fn.relaxer in
    let done = reverse (drop l.left l.path) in
    record {
      within : l.left ≤ length l.path;
      ready : IsReadyBy g.K.Linking.links g.K.Linking.turned l.fn.graph.ranks l.labels l.chain;
      unturned : g.K.Linking.turned l.chain ≡ false;
      stays : g.R.Relaxer.hierarchy l.relaxer ≡ h;
      soonest : NoneSooner l.fn.graph.ranks l.soonest l.labels (drop l.left l.path);
      swept : (q : Led) → l.path ≡ q.path → q.allows ≡ g.L.Limits.allows l.fn.limits → IsDownSwept h q [] l.fn.labels (g.K.Linking.links l.fn.chain)
          → IsDownSwept h q done l.labels (g.K.Linking.links l.chain) × (first_long h (down_calls_of h q done) ≡ None)
          × AddsAll (g.R.Relaxer.calls l.fn.relaxer) (g.R.Relaxer.calls l.relaxer) (down_calls_of h q done);
    }

abbrev pub decreases-ranks : goal.decreases-ranks
decreases-ranks g l = l.left
