use Rattle.std.proofs.Common.{◌≡◌, ◌+◌, ◌∙◌, ◌++◌, Some, List, ℕ, flat_map, map, ap, sym}
use Rattle.std.specs.Prelude.{slice_get}
use Rattle.std.specs.Option.{option_map}
use Rattle.std.proofs.lemmas.List.{take-map}
use Rattle.std.proofs.lemmas.Option.{slice_get-map}
use Rattle.cu_chordal.specs.declared.graph.Ends.{Ends}
use Rattle.cu_pack.specs.Spelling.{short}
use Rattle.cu_pack.proofs.Spelled.Putting.{put_more}
use Rattle.cu_pack.proofs.sections.put_uppers.Goals as goal

pub loop-edge-preserved : goal.loop-edge-preserved
loop-edge-preserved c =
    let edges = c.args.graph.now.edges in
    let high = λ (ends : Ends). ends.high in
    let put = λ (uppers : List ℕ). c.args.bytes.now.items ++ flat_map short uppers in
    let there : slice_get (map high edges) c.loop-edge.edge ≡ Some c.ends.result.high = slice_get-map high edges c.loop-edge.edge ∙ ap (option_map high) c.ends.ensures.there in
    let before = c.loop-edge.invariant ∙ ap put (sym (take-map high c.loop-edge.edge edges)) in
    put_more short (map high edges) c.loop-edge.edge c.ends.result.high c.args.bytes.now.items c.loop-edge.bytes.items c.put_short.new.bytes.items there before c.in_ok-put_short.ensures
    ∙ ap put (take-map high (c.loop-edge.edge + 1) edges)
