use Rattle.std.proofs.Common.{◌≡◌, ◌*◌, ◌∙◌, ℕ, arith, length}
use Rattle.std.specs.Prelude.{IfOk, Result, Ok, Err}
use Rattle.cu_interval.specs.Hierarchies.{HierarchyValue}
use Rattle.cu_recall.specs.Downs.{KnowsDowns}
use Rattle.cu_recall.specs.Rooms.{Fits, RoomValue}
use Rattle.cu_recall.specs.Spans.{Knows}
use Rattle.tests_files.proofs.recalls.fresh.Goals as goal

-- room of a hierarchy's size that knows nothing fits it
fits_of : {E : Type 0} (h : HierarchyValue) (nodes edges : ℕ) (made : Result RoomValue E)
    → nodes ≡ h.network.nodes → edges ≡ length h.edges
    → IfOk made (λ room. room.nodes ≡ nodes) → IfOk made (λ room. length room.rows ≡ 2 * edges)
    → IfOk made (λ room. (k : HierarchyValue) → Knows k room.rows)
    → IfOk made (λ room. (k : HierarchyValue) → KnowsDowns k room.downs)
    → IfOk made (λ room. Fits h room)
fits_of h nodes edges (Ok room) all_nodes all_edges same lists knows downs = record {
  nodes = same ∙ all_nodes;
  lists = omega (arith, lists, all_edges);
  knows = knows h;
  downs = downs h;
}
fits_of h nodes edges (Err e) all_nodes all_edges same lists knows downs = tt

pub returns : goal.returns
returns c =
    let made = c.new.ensures in
    record { fits = fits_of c.args.view.now c.nodes.result c.edges.result c.new.result c.nodes.ensures.count c.edges.ensures.count made.nodes made.lists made.knows made.downs }
