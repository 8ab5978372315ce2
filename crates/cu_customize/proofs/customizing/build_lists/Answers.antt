use Rattle.std.proofs.Common.{◌≡◌, ◌*◌, ◌∙◌, [], ℕ, List, Option, length, subst, sym, ap, arith}
use Rattle.cu_arrival.specs.declared.runs.Run.{Run}
use Rattle.cu_chordal.specs.Graphs.{first_edge_of}
use Rattle.cu_interval.specs.declared.ways.Entry.{Entry}
use Rattle.cu_customize.specs.Steps.Kept.{IsBuilding, IsBuiltTo}
use Rattle.cu_customize.proofs.Dropped.{keeps_none}
use Rattle.cu_customize.proofs.Keeping.{nothing_built}
use Rattle.cu_customize.proofs.Ranks.{first_last, first_zero}
use Rattle.cu_customize.proofs.customizing.build_lists.Goals as goal

pub loop-rank-init : goal.loop-rank-init
loop-rank-init g c =
    let edges = c.args.parts.now.graph.now.edges in
    let none : 0 ≡ first_edge_of edges 0 = sym (first_zero edges) in
    let Building : ℕ → List (Option (List Run)) → List (List Entry) → Type 0 = λ i fs ls. IsBuilding c.args.parts.now.network.now c.args.parts.now.order.now edges i (2 * i) fs ls in
    record {
      room = c.in_ok-triangles.ensures ∙ c.ranks.ensures.count;
      built = subst (λ (i : ℕ). Building i c.in_ok-with_capacity.field-0.items c.in_ok-with_capacity-2.field-0.items) none
          (subst (λ (fs : List (Option (List Run))). Building 0 fs c.in_ok-with_capacity-2.field-0.items) (sym c.in_ok-with_capacity.ensures.items)
          (subst (λ (ls : List (List Entry)). Building 0 [] ls) (sym c.in_ok-with_capacity-2.ensures.items)
          ([], nothing_built c.args.parts.now.network.now c.args.parts.now.order.now edges, keeps_none edges 0)));
    }

pub returns : goal.returns
returns g c =
    let graph = c.args.parts.now.graph.now in
    let all : c.loop-rank.rank ≡ graph.ranks = (let count = c.ranks-rank-end.ensures.count in omega (arith, count)) in
    let last : first_edge_of graph.edges c.loop-rank.rank ≡ length graph.edges = ap (λ (k : ℕ). first_edge_of graph.edges k) all ∙ first_last graph c.requires.chordal in
    let (whole, built, keeps) = c.loop-rank.invariant.built in
    (whole, subst (λ (i : ℕ). IsBuiltTo c.args.parts.now.network.now c.args.parts.now.order.now graph.edges (2 * i) whole c.loop-rank.building.lists.items) last built)
