use Rattle.std.proofs.Common.{arith, ap, length}
use Rattle.cu_interval.specs.Hierarchies.{HierarchyValue}
use Rattle.cu_store.proofs.KnowsLaws.{knows_nothing}
use Rattle.cu_router.proofs.known_lists.KnownLists.new.Goals as goal

pub returns : goal.returns
returns c =
    let held = c.args.held.now in
    let edges = ap (λ (h : HierarchyValue). length h.edges) c.view.ensures.same in record {
      size = omega (arith, c.store_of-store.ensures.lists, c.edges-edges.ensures.count, edges);
      knows = knows_nothing held c.store_of-store.result.known c.store_of-store.ensures.unknown;
      sequences = c.sequences_of-sequences.ensures held;
    }
