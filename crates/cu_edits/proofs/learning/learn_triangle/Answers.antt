use Rattle.std.proofs.Common.{◌≡◌, ◌<◌, List, length, subst, ℕ}
use Rattle.std.proofs.lemmas.Option.{slice_get_within}
use Rattle.cu_chordal.specs.declared.graph.Ends.{Ends}
use Rattle.cu_edits.specs.Steps.Known.{HasFunctions, IsSideOver}
use Rattle.cu_edits.proofs.LearntSides.{both_known, first_side, known_still, learns_then, on_ok, second_side}
use Rattle.cu_edits.proofs.AtHand.{same_edges}
use Rattle.cu_edits.proofs.learning.learn_triangle.Goals as goal

pub returns-clause-learns : goal.returns-clause-learns
returns-clause-learns g c =
    let edges = c.args.parts.now.graph.edges in
    let first = c.in-Some.first in
    let second = c.in-Some-edge.second in
    learns_then c.args.parts.now.before (λ (e : ℕ). e ≡ first) (λ (e : ℕ). e ≡ second) (IsSideOver edges c.args.ends c.args.middle) c.args.known.now c.learn_edge.new.known
    c.learn_edge-2.new.known
    (λ e same. first_side edges c.args.ends c.args.middle first second e c.in-Some.ensures.found c.in-Some-edge.ensures.found same)
    (λ e same. second_side edges c.args.ends c.args.middle first second e c.in-Some.ensures.found c.in-Some-edge.ensures.found same)
    c.in_ok-learn_edge.ensures.learns c.learn_edge-2.ensures.learns

pub returns-clause-sides : goal.returns-clause-sides
returns-clause-sides g c =
    let edges = c.args.parts.now.graph.edges in
    let first = c.in-Some.first in
    let second = c.in-Some-edge.second in
    on_ok {P = HasFunctions c.learn_edge-2.new.known second} c.learn_edge-2.result
    (λ two. both_known edges c.in-Some.ensures.sound.rising c.args.ends c.args.middle first second c.learn_edge-2.new.known c.in-Some.ensures.found c.in-Some-edge.ensures.found
    (known_still c.args.parts.now.before (λ (e : ℕ). e ≡ second) c.learn_edge.new.known c.learn_edge-2.new.known first c.learn_edge-2.ensures.learns c.in_ok-learn_edge.ensures.known) two)
    c.learn_edge-2.ensures.known

pub learn_edge-requires-clause-edge : goal.learn_edge-requires-clause-edge
learn_edge-requires-clause-edge g c =
    subst (λ (es : List Ends). c.in-Some.first < length es) (same_edges c.args.parts.now.before c.args.parts.now.graph c.in-Some.ensures.fit.0.hierarchy)
    (slice_get_within c.args.parts.now.graph.edges c.in-Some.first _ c.in-Some.ensures.found)

pub learn_edge-requires-2-clause-edge : goal.learn_edge-requires-2-clause-edge
learn_edge-requires-2-clause-edge g c =
    subst (λ (es : List Ends). c.in-Some-edge.second < length es) (same_edges c.args.parts.now.before c.args.parts.now.graph c.in-Some.ensures.fit.0.hierarchy)
    (slice_get_within c.args.parts.now.graph.edges c.in-Some-edge.second _ c.in-Some-edge.ensures.found)
