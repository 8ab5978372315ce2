-- The roads of the calls before a place were written.
use Rattle.std.proofs.Common.{◌≡◌, ◌≤◌, ◌*◌, ◌-◌}
use Rattle.cu_sweep.specs.Desks.{call_text}
use Rattle.cu_sweep.specs.Steps.Ready.{turn_of}
use Rattle.cu_sweep.proofs.Turned.{IsOnRoute}
use Rattle.cu_sweep.proofs.routing.write_chain.Given as goal

abbrev pub invariant-links : goal.invariant-links
invariant-links g l =
    let nodes = l.fn.reached.nodes in
    let seconds = l.fn.reached.seconds in
    let text = call_text (g.P.WalkForm.text l.form) (g.W.Relaxer.hierarchy l.fn.walker) in
    record {
      stays : g.W.Relaxer.hierarchy l.walker ≡ g.W.Relaxer.hierarchy l.fn.walker;
      quiet : g.W.Relaxer.calls l.walker ≡ g.W.Relaxer.calls l.fn.walker;
      within : l.place ≤ 2 * nodes;
      few : turn_of nodes l.place ≤ 2 * nodes;
      on : IsOnRoute text nodes seconds.now l.fn.chain.links l.chain.links l.fn.end l.place l.first
          (g.K.Sink.state l.fn.sink) (g.K.Sink.state l.sink);
    }

abbrev pub decreases-links : goal.decreases-links
decreases-links g l = 2 * l.fn.reached.nodes - turn_of l.fn.reached.nodes l.place
