use Rattle.std.proofs.Common.{◌∙◌, ap, refl}
use Rattle.cu_model.specs.Networks.{NetworkValue}
use Rattle.cu_interval.specs.declared.ways.Dir.TheVariants.{Up, Down}
use Rattle.cu_interval.specs.declared.ways.TouchedEdge.{TouchedEdge}
use Rattle.cu_edits.specs.declared.edge_functions.EdgeFunctions.{EdgeFunctions}
use Rattle.cu_edits.specs.Steps.Known.{KnownValue, functions_of}
use Rattle.cu_edits.proofs.SettlingArcs.{asks_list, settled_both, settled_over}
use Rattle.cu_edits.proofs.edit_settler.settle_edge.Goals as goal
use Rattle.cu_resettled.specs.ResettlingAll.{edited_all}

pub settle-requires-clause-edge : goal.settle-requires-clause-edge
settle-requires-clause-edge g c =
    let of : NetworkValue → KnownValue = λ n. record { network = n; known = c.args.known.now } in
    let meant = ap functions_of (c.of-functions.ensures ∙ ap of c.edited_roads-roads.ensures.roads) in
    (asks_list c.args.parts.now c.graph-graph.result.now c.edge_arcs-arcs.result.now c.graph-graph.ensures.same c.edge_arcs-arcs.ensures.same c.graph-graph.ensures.fit c.args.known.now
    (functions_of c.of-functions.result) meant c.args.edge c.requires.edge c.requires.sides Up).inside

pub settle-requires-clause-lists : goal.settle-requires-clause-lists
settle-requires-clause-lists g c =
    let of : NetworkValue → KnownValue = λ n. record { network = n; known = c.args.known.now } in
    let meant = ap functions_of (c.of-functions.ensures ∙ ap of c.edited_roads-roads.ensures.roads) in
    (asks_list c.args.parts.now c.graph-graph.result.now c.edge_arcs-arcs.result.now c.graph-graph.ensures.same c.edge_arcs-arcs.ensures.same c.graph-graph.ensures.fit c.args.known.now
    (functions_of c.of-functions.result) meant c.args.edge c.requires.edge c.requires.sides Up).long

pub settle-requires-clause-arcs : goal.settle-requires-clause-arcs
settle-requires-clause-arcs g c =
    let of : NetworkValue → KnownValue = λ n. record { network = n; known = c.args.known.now } in
    let meant = ap functions_of (c.of-functions.ensures ∙ ap of c.edited_roads-roads.ensures.roads) in
    (asks_list c.args.parts.now c.graph-graph.result.now c.edge_arcs-arcs.result.now c.graph-graph.ensures.same c.edge_arcs-arcs.ensures.same c.graph-graph.ensures.fit c.args.known.now
    (functions_of c.of-functions.result) meant c.args.edge c.requires.edge c.requires.sides Up).arcs

pub settle-requires-clause-halves : goal.settle-requires-clause-halves
settle-requires-clause-halves g c =
    let of : NetworkValue → KnownValue = λ n. record { network = n; known = c.args.known.now } in
    let meant = ap functions_of (c.of-functions.ensures ∙ ap of c.edited_roads-roads.ensures.roads) in
    (asks_list c.args.parts.now c.graph-graph.result.now c.edge_arcs-arcs.result.now c.graph-graph.ensures.same c.edge_arcs-arcs.ensures.same c.graph-graph.ensures.fit c.args.known.now
    (functions_of c.of-functions.result) meant c.args.edge c.requires.edge c.requires.sides Up).halves

pub settle-requires-2-clause-edge : goal.settle-requires-2-clause-edge
settle-requires-2-clause-edge g c =
    let of : NetworkValue → KnownValue = λ n. record { network = n; known = c.args.known.now } in
    let meant = ap functions_of (c.of-functions.ensures ∙ ap of c.edited_roads-roads.ensures.roads) in
    (asks_list c.args.parts.now c.graph-graph.result.now c.edge_arcs-arcs.result.now c.graph-graph.ensures.same c.edge_arcs-arcs.ensures.same c.graph-graph.ensures.fit c.args.known.now
    (functions_of c.settle.new.functions) (c.in_ok-up.ensures.same ∙ meant) c.args.edge c.requires.edge c.requires.sides Down).inside

pub settle-requires-2-clause-lists : goal.settle-requires-2-clause-lists
settle-requires-2-clause-lists g c =
    let of : NetworkValue → KnownValue = λ n. record { network = n; known = c.args.known.now } in
    let meant = ap functions_of (c.of-functions.ensures ∙ ap of c.edited_roads-roads.ensures.roads) in
    (asks_list c.args.parts.now c.graph-graph.result.now c.edge_arcs-arcs.result.now c.graph-graph.ensures.same c.edge_arcs-arcs.ensures.same c.graph-graph.ensures.fit c.args.known.now
    (functions_of c.settle.new.functions) (c.in_ok-up.ensures.same ∙ meant) c.args.edge c.requires.edge c.requires.sides Down).long

pub settle-requires-2-clause-arcs : goal.settle-requires-2-clause-arcs
settle-requires-2-clause-arcs g c =
    let of : NetworkValue → KnownValue = λ n. record { network = n; known = c.args.known.now } in
    let meant = ap functions_of (c.of-functions.ensures ∙ ap of c.edited_roads-roads.ensures.roads) in
    (asks_list c.args.parts.now c.graph-graph.result.now c.edge_arcs-arcs.result.now c.graph-graph.ensures.same c.edge_arcs-arcs.ensures.same c.graph-graph.ensures.fit c.args.known.now
    (functions_of c.settle.new.functions) (c.in_ok-up.ensures.same ∙ meant) c.args.edge c.requires.edge c.requires.sides Down).arcs

pub settle-requires-2-clause-halves : goal.settle-requires-2-clause-halves
settle-requires-2-clause-halves g c =
    let of : NetworkValue → KnownValue = λ n. record { network = n; known = c.args.known.now } in
    let meant = ap functions_of (c.of-functions.ensures ∙ ap of c.edited_roads-roads.ensures.roads) in
    (asks_list c.args.parts.now c.graph-graph.result.now c.edge_arcs-arcs.result.now c.graph-graph.ensures.same c.edge_arcs-arcs.ensures.same c.graph-graph.ensures.fit c.args.known.now
    (functions_of c.settle.new.functions) (c.in_ok-up.ensures.same ∙ meant) c.args.edge c.requires.edge c.requires.sides Down).halves

pub returns : goal.returns
returns g c =
    let p = c.args.parts.now in
    let asked = functions_of (record { network = edited_all p.before.network p.edit; known = c.args.known.now }) in
    let of : NetworkValue → KnownValue = λ n. record { network = n; known = c.args.known.now } in
    let meant = ap functions_of (c.of-functions.ensures ∙ ap of c.edited_roads-roads.ensures.roads) in
    let lists : TouchedEdge = record { edge = c.args.edge; up = c.in_ok-up.up.ways; down = c.in_ok-down.down.ways } in
    let functions : EdgeFunctions = record { up = c.in_ok-up.up.function; down = c.in_ok-down.down.function } in
    settled_both p.graph.edges p.arcs asked c.args.edge lists functions refl
    (settled_over p c.graph-graph.result.now c.edge_arcs-arcs.result.now c.graph-graph.ensures.same c.edge_arcs-arcs.ensures.same (functions_of c.of-functions.result) asked meant
    c.args.edge Up
    c.in_ok-up.up.ways c.in_ok-up.up.function (record { ways = c.in_ok-up.ensures.ways; value = c.in_ok-up.ensures.function }))
    (settled_over p c.graph-graph.result.now c.edge_arcs-arcs.result.now c.graph-graph.ensures.same c.edge_arcs-arcs.ensures.same (functions_of c.settle.new.functions) asked
    (c.in_ok-up.ensures.same ∙ meant)
    c.args.edge Down
    c.in_ok-down.down.ways c.in_ok-down.down.function (record { ways = c.in_ok-down.ensures.ways; value = c.in_ok-down.ensures.function }))
