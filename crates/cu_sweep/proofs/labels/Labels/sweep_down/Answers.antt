use Rattle.std.proofs.Common.{refl}
use Rattle.cu_sweep.specs.Steps.Made.{open_to}
use Rattle.cu_sweep.proofs.AllMade.{down_open_swept, makes_open_down, up_swept_open}
use Rattle.cu_sweep.proofs.labels.Labels.sweep_down.Goals as goal

pub returns-clause-makes : goal.returns-clause-makes
returns-clause-makes g c q same up =
    let h = g.R.Relaxer.hierarchy c.args.relaxer.now in
    makes_open_down h q (g.R.Relaxer.calls c.args.relaxer.now) (g.R.Relaxer.calls c.fall.new.relaxer) c.fall.result
    (c.fall.ensures.makes (open_to q) same refl (up_swept_open h q c.args.self.now up))

pub returns-clause-swept : goal.returns-clause-swept
returns-clause-swept g c q same up none =
    let h = g.R.Relaxer.hierarchy c.args.relaxer.now in
    down_open_swept h q c.fall.new.self (c.fall.ensures.swept (open_to q) same refl (up_swept_open h q c.args.self.now up) none)

pub fall-requires-clause-falls : goal.fall-requires-clause-falls
fall-requires-clause-falls g c = λ place s t less may. refl
