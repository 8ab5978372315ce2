use Rattle.std.proofs.Common.{◌≡◌, ◌<◌, ◌*◌, ◌∙◌, ℕ, List, Some, ap, length, refl, subst, sym}
use Rattle.std.specs.Prelude.{slice_get}
use Rattle.cu_chordal.specs.declared.graph.Ends.{Ends}
use Rattle.cu_chordal.specs.Graphs.{ChordalValue}
use Rattle.cu_interval.specs.Hierarchies.{IsHierarchyOf, list_number}
use Rattle.cu_customize.specs.declared.pulling.SettledRuns.{SettledRuns}
use Rattle.cu_customize.specs.Functions.{kept_state}
use Rattle.cu_customize.specs.Triangles.{AreTrianglesOf}
use Rattle.cu_edits.specs.Steps.Packed.{IsPackedList}
use Rattle.cu_edits.proofs.AtHand.{same_edges}
use Rattle.cu_edits.proofs.SettlingArcs.{arcs_sound}
use Rattle.cu_edits.proofs.PackedNext.{if_some, list_by}
use Rattle.cu_edits.proofs.settling_packed.settle_runs.Goals as goal
use Rattle.cu_resettled.specs.ResettlingAll.{edited_all}

pub settle-requires-clause-edge : goal.settle-requires-clause-edge
settle-requires-clause-edge g c = subst (λ (k : ChordalValue). c.args.edge < length k.edges) (sym c.graph-graph.ensures.same) c.requires.edge

pub settle-requires-clause-lists : goal.settle-requires-clause-lists
settle-requires-clause-lists g c =
    ap length c.edge_arcs-arcs.ensures.same ∙ c.graph-graph.ensures.fit.0.roads.long
    ∙ ap (λ (es : List Ends). 2 * length es) (sym (same_edges c.args.parts.now.before c.args.parts.now.graph c.graph-graph.ensures.fit.0.hierarchy))
    ∙ ap (λ (k : ChordalValue). 2 * length k.edges) (sym c.graph-graph.ensures.same)

pub settle-requires-clause-arcs : goal.settle-requires-clause-arcs
settle-requires-clause-arcs g c = λ list at.
    let h = c.args.parts.now.before in
    let parts = c.graph-graph.ensures.fit.0 in
    let inside : c.args.edge < length h.edges = subst (λ (es : List Ends). c.args.edge < length es) (same_edges h c.args.parts.now.graph parts.hierarchy) c.requires.edge in
    arcs_sound h.network h.order h.edges c.args.parts.now.arcs c.args.parts.now.edit c.args.edge c.args.dir parts.roads inside
    c.edited_roads-roads.result c.edited_roads-roads.ensures.roads list
    (subst (λ (lists : List (List ℕ)). slice_get lists (list_number c.args.edge c.args.dir) ≡ Some list) c.edge_arcs-arcs.ensures.same at)

pub settle-requires-clause-functions : goal.settle-requires-clause-functions
settle-requires-clause-functions g c = c.requires.functions ∙ ap (λ (k : ChordalValue). 2 * length k.edges) (sym c.graph-graph.ensures.same)

pub settle-requires-clause-triangles : goal.settle-requires-clause-triangles
settle-requires-clause-triangles g c = subst (λ (k : ChordalValue). AreTrianglesOf k.edges c.args.edge c.args.settling.now) (sym c.graph-graph.ensures.same) c.requires.triangles

pub returns-clause-found : goal.returns-clause-found
returns-clause-found g c =
    let h = c.args.parts.now.before in
    let edit = c.args.parts.now.edit in
    let of = subst (λ (k : ChordalValue). IsHierarchyOf k h) (sym c.graph-graph.ensures.same) c.graph-graph.ensures.fit.0.hierarchy in
    if_some c.in_ok-found.found (IsPackedList h.edges c.args.parts.now.arcs (kept_state (edited_all h.network edit) c.args.functions) c.args.edge c.args.dir) (λ (found : SettledRuns) is.
    subst (λ (lists : List (List ℕ)). IsPackedList h.edges lists (kept_state (edited_all h.network edit) c.args.functions) c.args.edge c.args.dir found) c.edge_arcs-arcs.ensures.same
    (list_by h c.graph-graph.result.now of c.edge_arcs-arcs.result.now c.edited_roads-roads.result (edited_all h.network edit) c.edited_roads-roads.ensures.roads c.args.functions
    c.args.functions refl c.args.edge c.args.dir c.in_ok-found.found found is c.in_ok-found.ensures.ways c.in_ok-found.ensures.function))
