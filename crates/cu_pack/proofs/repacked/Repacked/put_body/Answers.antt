use Rattle.std.proofs.Common.{◌++◌, ◌∙◌, List, ℕ, ap, flat_map, sym}
use Rattle.std.proofs.lemmas.Result.{on_ok_weaker}
use Rattle.cu_interval.specs.Hierarchies.{HierarchyValue}
use Rattle.cu_pack.specs.declared.layout.Counts.{Counts}
use Rattle.cu_pack.specs.Repacking.{with_roads}
use Rattle.cu_pack.specs.Spelling.{body, counts_of, header, long}
use Rattle.cu_pack.specs.Steps.Fronts.{front, parts}
use Rattle.cu_pack.proofs.Spelled.Growing.{grows_same}
use Rattle.cu_pack.proofs.Spelled.Parts.{body_parts}
use Rattle.cu_pack.proofs.repacked.Repacked.put_body.Goals as goal

pub returns : goal.returns
unfolding front
returns g c =
    let inside = c.self.inside in
    let h = with_roads inside.view.now (g.R.Roads.network inside.roads.now) inside.lists.now in
    let more = g.met.T.Target.more in
    let counted = ap (λ (counts : Counts). (header counts ++ parts h) ++ flat_map long inside.bounds.now) c.self.invariant.counted in
    let bounded = ap (λ (bounds : List ℕ). (header (counts_of 2 h) ++ parts h) ++ flat_map long bounds) c.self.invariant.bounded in
    let whole = counted ∙ bounded ∙ sym (body_parts 2 h) ∙ ap (λ (k : HierarchyValue). body 2 k) c.self.view_is in
    on_ok_weaker c.put_bounds.result
    (λ e. grows_same g.T.Target.grows _ _ _ _ whole (more _ _ _ _ _ (more _ _ _ _ _ c.in_ok-put_header.ensures c.in_ok-put_edited.ensures) e))
    c.put_bounds.ensures
