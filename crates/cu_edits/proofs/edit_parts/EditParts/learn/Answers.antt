use Rattle.std.proofs.Common.{◌<◌, List, length, subst, sym}
use Rattle.cu_chordal.specs.declared.graph.Ends.{Ends}
use Rattle.cu_edits.specs.Learned.{ArePackedOf}
use Rattle.cu_edits.specs.Steps.Packed.{LearnsPacked}
use Rattle.cu_edits.specs.Steps.Parts.{PartsValue}
use Rattle.cu_edits.proofs.AtHand.{same_edges}
use Rattle.cu_edits.proofs.LearntPacked.{learns_list}
use Rattle.cu_edits.proofs.edit_parts.EditParts.learn.Goals as goal

pub learn-requires-clause-edge : goal.learn-requires-clause-edge
learn-requires-clause-edge g c =
    let inside = c.self.inside in
    let h = g.W.Ways.hierarchy inside.ways.now in
    subst (λ (es : List Ends). c.args.edge < length es) (same_edges h inside.graph.now c.self.invariant.0.0.hierarchy)
    (subst (λ (p : PartsValue). c.args.edge < length p.graph.edges) (sym c.self.view_is) c.requires.edge)

pub learn-requires-clause-size : goal.learn-requires-clause-size
learn-requires-clause-size g c = (subst (λ (p : PartsValue). ArePackedOf p.before c.args.packed.now) (sym c.self.view_is) c.requires.known).size

pub learn-requires-clause-keeps : goal.learn-requires-clause-keeps
learn-requires-clause-keeps g c = λ e dir own known.
    (subst (λ (p : PartsValue). ArePackedOf p.before c.args.packed.now) (sym c.self.view_is) c.requires.known).keeps e dir tt known

pub returns-clause-learns : goal.returns-clause-learns
returns-clause-learns g c =
    let packed = subst (λ (p : PartsValue). ArePackedOf p.before c.args.packed.now) (sym c.self.view_is) c.requires.known in
    subst (λ (p : PartsValue). LearnsPacked p.before c.args.packed.now c.learn.new.self) c.self.view_is
    (learns_list (g.W.Ways.hierarchy c.self.inside.ways.now) c.args.edge c.args.packed.now c.learn.new.self packed c.learn.ensures.size c.learn.ensures.learns)
