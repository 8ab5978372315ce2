use Rattle.std.proofs.Common.{◌++◌, ◌∙◌, ap, flat_map, map, suc}
use Rattle.std.specs.List.{range_with_len}
use Rattle.std.proofs.lemmas.Result.{on_ok_weaker}
use Rattle.cu_model.specs.Networks.{NetworkValue}
use Rattle.cu_model.specs.Orders.{OrderValue}
use Rattle.cu_chordal.specs.declared.graph.Ends.{Ends}
use Rattle.cu_chordal.specs.Graphs.{ChordalValue, first_edge_of}
use Rattle.cu_pack.specs.Spelling.{arc_bytes, arcs_section, edges_section, long, order_section, piece_bytes, profiles_section, starts_from, ways_section, short}
use Rattle.cu_pack.proofs.Spelled.Putting.{put_then}
use Rattle.cu_pack.proofs.packing.put_parts.Goals as goal

pub returns : goal.returns
returns c =
    let h = c.args.hierarchy.now in
    let b0 = c.args.bytes.now.items in
    let b1 = c.put_order.new.bytes.items in
    let b2 = c.put_arcs.new.bytes.items in
    let b3 = c.put_profiles.new.bytes.items in
    let b4 = c.put_edges.new.bytes.items in
    let b5 = c.put_ways.new.bytes.items in
    let from4 = ways_section h in
    let from3 = edges_section h ++ from4 in
    let from2 = profiles_section h ++ from3 in
    let from1 = arcs_section h ++ from2 in
    let order = ap (λ (o : OrderValue). b0 ++ (flat_map short o.node_at ++ flat_map short o.rank_of)) c.order.ensures in
    let arcs = ap (λ (g : NetworkValue). b1 ++ flat_map arc_bytes g.arcs) c.network-network.ensures in
    let profiles = ap (λ (g : NetworkValue). b2 ++ (flat_map long (starts_from 0 g.profiles) ++ flat_map (flat_map piece_bytes) g.profiles)) c.network-network.ensures in
    let edges =
    ap (λ (g : ChordalValue). b3 ++ (flat_map short (map (first_edge_of g.edges) (range_with_len 0 (suc g.ranks))) ++ flat_map short (map (λ (ends : Ends). ends.high) g.edges))) c.graph.ensures in
    on_ok_weaker c.put_ways.result
    (λ e.
    put_then b0 b1 b5 (order_section h) from1 (c.in_ok-put_order.ensures ∙ order)
    (put_then b1 b2 b5 (arcs_section h) from2 (c.in_ok-put_arcs.ensures ∙ arcs)
    (put_then b2 b3 b5 (profiles_section h) from3 (c.in_ok-put_profiles.ensures ∙ profiles)
    (put_then b3 b4 b5 (edges_section h) from4 (c.in_ok-put_edges.ensures ∙ edges) e))))
    c.put_ways.ensures
