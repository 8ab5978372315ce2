use Rattle.std.proofs.Common.{◌∙◌, ap, arith, length}
use Rattle.cu_interval.specs.Hierarchies.{HierarchyValue}
use Rattle.cu_router.proofs.router.rooms_over.Goals as goal

pub returns : goal.returns
returns c =
    let same = c.view-view.ensures.same in
    let made = c.in_ok-queries.ensures in
    record {
      fits = record {
        nodes = made.nodes ∙ c.nodes-nodes.ensures.count ∙ ap (λ (h : HierarchyValue). h.network.nodes) same;
        lists = omega (arith, made.lists, c.edges-edges.ensures.count, ap (λ (h : HierarchyValue). length h.edges) same);
        knows = made.knows c.args.held.now;
        downs = made.downs c.args.held.now;
      };
      nodes = c.in_ok-reaches.ensures.nodes ∙ c.nodes-nodes.ensures.count ∙ ap (λ (h : HierarchyValue). h.network.nodes) same;
    }
