use Rattle.std.proofs.Common.{refl}
use Rattle.cu_sweep.specs.Steps.Made.{open_to}
use Rattle.cu_sweep.proofs.AllMade.{makes_open_up, open_begun, up_open_swept}
use Rattle.cu_sweep.proofs.labels.Labels.sweep_up.Goals as goal

pub returns-clause-makes : goal.returns-clause-makes
returns-clause-makes g c q same begun =
    let h = g.R.Relaxer.hierarchy c.args.relaxer.now in
    makes_open_up h q (g.R.Relaxer.calls c.args.relaxer.now) (g.R.Relaxer.calls c.rise.new.relaxer) c.rise.result
    (c.rise.ensures.makes (open_to q) same refl (open_begun h q c.args.self.now begun))

pub returns-clause-swept : goal.returns-clause-swept
returns-clause-swept g c q same begun none =
    let h = g.R.Relaxer.hierarchy c.args.relaxer.now in
    up_open_swept h q c.rise.new.self (c.rise.ensures.swept (open_to q) same refl (open_begun h q c.args.self.now begun) none)

pub rise-requires-clause-leads : goal.rise-requires-clause-leads
rise-requires-clause-leads g c = λ k x lt y edge s number may. refl
