use Rattle.std.proofs.Common.{◌∙◌, sym}
use Rattle.std.proofs.lemmas.Result.{on_ok_weaker}
use Rattle.cu_pack.specs.Repacking.{with_roads}
use Rattle.cu_pack.proofs.Rewrites.Edited.{edges_kept}
use Rattle.cu_pack.proofs.Spelled.Growing.{grows_same}
use Rattle.cu_pack.proofs.Numbering.Totals.{entries_in_limit}
use Rattle.cu_pack.proofs.repacking.put_edited.Goals as goal

pub put_replaced-requires-clause-few : goal.put_replaced-requires-clause-few
put_replaced-requires-clause-few g c = entries_in_limit (with_roads c.args.view.now (g.R.Roads.network c.args.roads.now) c.args.lists.now) c.requires.sound

pub returns : goal.returns
returns g c =
    let more = g.met.T.Target.more in
    let kept = edges_kept c.args.view.now (g.R.Roads.network c.args.roads.now) c.args.lists.now c.requires.nodes in
    let order = grows_same g.T.Target.grows _ _ _ _ c.order_part.ensures.part c.in_ok-put.ensures in
    let edges = grows_same g.T.Target.grows _ _ _ _ (c.edges_part.ensures.part ∙ sym kept) c.in_ok-put-2.ensures in
    on_ok_weaker c.put_replaced.result
    (λ e. more _ _ _ _ _ order (more _ _ _ _ _ c.in_ok-put_arcs.ensures (more _ _ _ _ _ c.in_ok-put_profiles.ensures (more _ _ _ _ _ edges e))))
    c.put_replaced.ensures
