use Rattle.std.proofs.Common.{◌≡◌, ◌*◌, ◌∙◌, List, Option, ap, length, subst, sym}
use Rattle.std.specs.Prelude.{IfSome}
use Rattle.cu_arrival.specs.declared.runs.Run.{Run}
use Rattle.cu_chordal.specs.declared.graph.Ends.{Ends}
use Rattle.cu_customize.specs.declared.pulling.SettledRuns.{SettledRuns}
use Rattle.cu_customize.specs.Functions.{kept_state}
use Rattle.cu_customize.specs.Triangles.{AreTrianglesOf}
use Rattle.cu_runs.specs.Layers.{layered}
use Rattle.cu_runs.proofs.Layers.{layered_long}
use Rattle.cu_edits.specs.Steps.Moving.{KeepsHalves}
use Rattle.cu_edits.specs.Steps.Packed.{IsPackedList}
use Rattle.cu_edits.specs.Steps.Parts.{settling_over}
use Rattle.cu_edits.proofs.AtHand.{same_edges}
use Rattle.cu_edits.proofs.PackedNext.{list_settled, packed_learnt}
use Rattle.cu_edits.proofs.settling_packed.settle_list.Goals as goal
use Rattle.cu_resettled.specs.ResettlingAll.{edited_all}

pub settle_runs-requires-clause-functions : goal.settle_runs-requires-clause-functions
settle_runs-requires-clause-functions g c =
    ap length c.over-functions.ensures ∙ layered_long c.functions.result c.args.state.now.moved.places c.args.state.now.moved.functions ∙ ap length c.functions.ensures
    ∙ c.learn_candidates.ensures.learns.packed.size.functions
    ∙ ap (λ (es : List Ends). 2 * length es) (sym (same_edges c.args.parts.now.before c.args.parts.now.graph c.learn_candidates.ensures.fit.0.hierarchy))

pub returns-in-Some-clause-list : goal.returns-in-Some-clause-list
returns-in-Some-clause-list g c done holds asked =
    let h = c.args.parts.now.before in
    let moved = c.args.state.now.moved in
    let learnt = c.learn_candidates.new.packed in
    let s = settling_over c.args.parts.now done in
    let IsFound : List (Option (List Run)) → SettledRuns → Type 0 =
    λ fs. IsPackedList h.edges c.args.parts.now.arcs (kept_state (edited_all h.network c.args.parts.now.edit) fs) c.args.edge c.args.dir in
    let meant : c.over-functions.result ≡ layered learnt.functions moved.places moved.functions =
    c.over-functions.ensures ∙ ap (λ (fs : List (Option (List Run))). layered fs moved.places moved.functions) c.functions.ensures in
    let found = subst (λ (o : Option SettledRuns). IfSome o (IsFound c.over-functions.result)) c.in-Some.is c.in_ok-settle_runs.ensures.found in
    list_settled s c.args.parts.now.graph c.args.parts.now.arcs learnt moved
    (packed_learnt s c.args.parts.now.graph c.args.parts.now.arcs c.args.state.now.functions learnt moved holds c.learn_candidates.ensures.learns) c.args.edge asked
    c.args.parts.now.customized c.learn_candidates.ensures.fit.1 c.args.dir
    (subst (λ (es : List Ends). KeepsHalves es moved c.args.edge) (same_edges h c.args.parts.now.graph c.learn_candidates.ensures.fit.0.hierarchy) c.requires.halves) (c.in_ok-learn_candidates.ensures.known c.if-not-branch.false) c.in-Some.found
    (subst (λ (fs : List (Option (List Run))). IsFound fs c.in-Some.found) meant found) c.new_list.result c.new_list.ensures.ways c.new_list.ensures.outcome c.new_list.ensures.standing

pub learn_candidates-requires-clause-triangles : goal.learn_candidates-requires-clause-triangles
learn_candidates-requires-clause-triangles g c = subst (AreTrianglesOf c.args.parts.now.graph.edges c.args.edge) (sym c.triangles.ensures) c.requires.triangles
