use Rattle.std.proofs.Common.{subst}
use Rattle.cu_edits.specs.Paused.{FitsPaused}
use Rattle.cu_edits.specs.Settling.{SettlingValue}
use Rattle.cu_edits.proofs.edit_settler.EditSettler.pause.Goals as goal

pub returns-clause-fits : goal.returns-clause-fits
returns-clause-fits g c =
    let inside = c.self.inside in
    subst (λ (s : SettlingValue). FitsPaused s.before s.edit (record { settled = inside.settled.items; state = inside.state })) c.self.view_is
    (inside.parts.graph, inside.parts.arcs, c.self.invariant)
