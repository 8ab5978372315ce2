-- What other roads between the same nodes leave of a hierarchy's file.
use Rattle.std.proofs.Common.{◌≡◌, ℕ, suc, List, ◌++◌, map, flat_map, ap}
use Rattle.std.specs.List.{range_with_len}
use Rattle.cu_model.specs.Networks.{NetworkValue}
use Rattle.cu_chordal.specs.declared.graph.Ends.{Ends}
use Rattle.cu_chordal.specs.Graphs.{first_edge_of}
use Rattle.cu_interval.specs.declared.ways.TouchedEdge.{TouchedEdge}
use Rattle.cu_interval.specs.Hierarchies.{HierarchyValue}
use Rattle.cu_pack.specs.Repacking.{with_roads}
use Rattle.cu_pack.specs.Spelling.{edges_section, short}

-- the graph stays
pub edges_kept : (h : HierarchyValue) (g : NetworkValue) (touched : List TouchedEdge) → g.nodes ≡ h.network.nodes → edges_section (with_roads h g touched) ≡ edges_section h
edges_kept h g touched same =
    ap (λ (n : ℕ). flat_map short (map (first_edge_of h.edges) (range_with_len 0 (suc n))) ++ flat_map short (map (λ (ends : Ends). ends.high) h.edges)) same
