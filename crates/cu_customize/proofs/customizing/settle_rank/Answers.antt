use Rattle.std.proofs.Common.{◌≡◌, ◌<◌, ◌+◌, ◌*◌, ℕ, List, Option, ap, arith, length, subst, sym}
use Rattle.std.proofs.lemmas.List.{take_at}
use Rattle.cu_arrival.specs.declared.runs.Run.{Run}
use Rattle.cu_chordal.specs.Graphs.{first_edge_of, up_of}
use Rattle.cu_chordal.proofs.Tables.{first_next}
use Rattle.cu_customize.specs.Steps.Kept.{IsBuilding, Keeps}
use Rattle.cu_customize.proofs.Ranks.{group_here, group_there}
use Rattle.cu_customize.proofs.customizing.settle_rank.Goals as goal

pub loop-place-init : goal.loop-place-init
loop-place-init c =
    let edges = c.args.parts.now.graph.now.edges in
    let first : first_edge_of edges c.args.rank ≡ c.first_edge-first.result + 0 = (let count = c.first_edge-first.ensures.count in omega (arith, count)) in
    subst (λ (i : ℕ). IsBuilding c.args.parts.now.network.now c.args.parts.now.order.now edges i (2 * i) c.args.building.now.functions.items c.args.building.now.lists.items) first c.requires.built

pub group-requires : goal.group-requires
group-requires c =
    let edges = c.args.parts.now.graph.now.edges in
    let size = ap (λ (xs : List ℕ). length xs) c.up-place-end.ensures.exact in
    let inside : c.loop-place.place < length (up_of edges c.args.rank) = omega (arith, size) in
    group_there edges c.args.rank c.loop-place.place c.find.new.self.groups.items c.in_ok-find.ensures.found inside

pub settle_edge-requires-clause-edge : goal.settle_edge-requires-clause-edge
settle_edge-requires-clause-edge c =
    let edges = c.args.parts.now.graph.now.edges in
    let size = ap (λ (xs : List ℕ). length xs) c.up-place-end.ensures.exact in
    let inside : c.loop-place.place < length (up_of edges c.args.rank) = omega (arith, size) in
    (group_here edges c.args.rank c.first_edge-first.result c.loop-place.place c.find.new.self.groups.items c.group.result.now c.first_edge-first.ensures.numbers c.in_ok-find.ensures.found inside
    c.group.ensures).0

pub settle_edge-requires-clause-triangles : goal.settle_edge-requires-clause-triangles
settle_edge-requires-clause-triangles c =
    let edges = c.args.parts.now.graph.now.edges in
    let size = ap (λ (xs : List ℕ). length xs) c.up-place-end.ensures.exact in
    let inside : c.loop-place.place < length (up_of edges c.args.rank) = omega (arith, size) in
    (group_here edges c.args.rank c.first_edge-first.result c.loop-place.place c.find.new.self.groups.items c.group.result.now c.first_edge-first.ensures.numbers c.in_ok-find.ensures.found inside
    c.group.ensures).1

pub loop-place-preserved : goal.loop-place-preserved
loop-place-preserved c =
    let next : (c.first_edge-first.result + c.loop-place.place) + 1 ≡ c.first_edge-first.result + (c.loop-place.place + 1) = omega arith in
    subst
    (λ (i : ℕ).
    IsBuilding c.args.parts.now.network.now c.args.parts.now.order.now c.args.parts.now.graph.now.edges i (2 * i) c.settle_edge.new.building.functions.items c.settle_edge.new.building.lists.items)
    next c.in_ok-settle_edge.ensures

pub drop_edges_to-requires-clause-settled : goal.drop_edges_to-requires-clause-settled
drop_edges_to-requires-clause-settled c =
    let edges = c.args.parts.now.graph.now.edges in
    let size = ap (λ (xs : List ℕ). length xs) c.up-place-end.ensures.exact in
    let next = first_next edges c.args.rank in
    let count = c.first_edge-first.ensures.count in
    let (whole, built, keeps) = c.loop-place.invariant in
    let long = built.functions_long in
    let kept = keeps.long in
    let value = ap (λ (fs : List (Option (List Run))). length fs) c.deref_mut.ensures.value in
    omega (arith, size, next, count, long, kept, value)

pub returns-clause-built : goal.returns-clause-built
returns-clause-built c =
    let edges = c.args.parts.now.graph.now.edges in
    let last = first_edge_of edges (c.args.rank + 1) in
    let size = ap (λ (xs : List ℕ). length xs) c.up-place-end.ensures.exact in
    let next = first_next edges c.args.rank in
    let count = c.first_edge-first.ensures.count in
    let all : c.first_edge-first.result + c.loop-place.place ≡ last = omega (arith, size, next, count) in
    let (whole, built, keeps) = subst
    (λ (i : ℕ). IsBuilding c.args.parts.now.network.now c.args.parts.now.order.now edges i (2 * i) c.loop-place.building.functions.items c.loop-place.building.lists.items) all
    c.loop-place.invariant in
    let value = c.deref_mut.ensures.value in
    let long = ap (λ (fs : List (Option (List Run))). length fs) value in
    let dropped = c.drop_edges_to.auto.functions in
    let left = c.drop_edges_to.ensures.keeps whole (subst (λ (fs : List (Option (List Run))). Keeps edges last whole fs) (sym value) keeps) in
    let kept = take_at c.drop_edges_to.new.functions _ c.loop-place.building.functions.len (omega (arith, long, dropped, c.loop-place.building.functions.ok.0)) in
    (whole, built, subst (λ (fs : List (Option (List Run))). Keeps edges last whole fs) (sym kept) left)
