use Rattle.std.proofs.Common.{◌∷◌, ◌∙◌, [], ap, subst, sym}
use Rattle.cu_edits.specs.Paused.{FitsPaused, PausedValue}
use Rattle.cu_edits.specs.Steps.Holding.{settling_of}
use Rattle.cu_edits.specs.Steps.Parts.{PartsValue, settling_over}
use Rattle.cu_edits.specs.Steps.SettlerStates.{Holds}
use Rattle.cu_edits.proofs.PausedLaws.{held_over}
use Rattle.cu_edits.proofs.edit_settler.EditSettler.resume.Goals as goal

pub invariant_of-result : goal.invariant_of-result
invariant_of-result g c =
    let parts = c.of-parts.result in
    let inside = c.paused.inside in
    let (graph, arcs, holds) = subst (FitsPaused (g.W.Ways.hierarchy c.args.ways.now) (c.args.edit.now ∷ [])) (sym c.paused.view_is) c.requires.fits in
    let here = subst (λ (p : PartsValue). Holds (settling_over p inside.settled.items) graph arcs inside.state) (sym c.of-parts.ensures.parts) holds in
    held_over (settling_over parts inside.settled.items) inside.state graph parts.graph arcs parts.arcs here c.of-parts.ensures.fit.0

pub returns : goal.returns
returns g c =
    ap (λ (p : PartsValue). settling_over p c.paused.inside.settled.items) c.of-parts.ensures.parts
    ∙ ap (λ (paused : PausedValue). settling_of (g.W.Ways.hierarchy c.args.ways.now) (c.args.edit.now ∷ []) paused.settled) c.paused.view_is
