use Rattle.std.proofs.Common.{◌≡◌, ◌≤◌, ◌<◌, ◌+◌, [], None, Some, arith, length, length-set, set, subst, sym, ◌∙◌}
use Rattle.cu_model.specs.declared.limits.TheConstants.{MAX_NODES}
use Rattle.cu_chordal.specs.Graphs.{up_of}
use Rattle.cu_chordal.specs.Lists.{edges_below}
use Rattle.cu_chordal.proofs.Checked.{IsCounting, counted_none, counting_all, counting_child, counting_more, counting_none}
use Rattle.cu_chordal.proofs.Handing.{group_in_range, handing_falls, is_none, latest_size}
use Rattle.cu_chordal.proofs.Listed.{up_below}
use Rattle.cu_chordal.proofs.checking.stamp_sources.Goals as goal

pub stamp_all-count-requires-clause-counted : goal.stamp_all-count-requires-clause-counted
stamp_all-count-requires-clause-counted c = ([], counted_none c.args.rank c.args.stamps.now c.requires.below c.requires.before.low)

pub children-init : goal.children-init
children-init c =
    let few : length c.stamp_all-count.new.stamps ≤ MAX_NODES =
    omega (arith, c.requires.few, c.stamp_all-count.auto.stamps, length-set c.args.stamps.now c.args.rank (c.args.rank + 1)) in
    counting_none (edges_below c.args.starts.now c.args.uppers.now c.args.rank) c.args.links.now (length c.args.stamps.now) c.args.rank c.stamp_all-count.result
    (set c.args.stamps.now c.args.rank (c.args.rank + 1)) c.stamp_all-count.new.stamps c.args.children.now c.index-child.result.now c.requires.below few
    (counted_none c.args.rank c.args.stamps.now c.requires.below c.requires.before.low) c.stamp_all-count.ensures c.requires.before.handed c.index-child.ensures

pub stamp_all-count-requires-in-Some-clause-in_range : goal.stamp_all-count-requires-in-Some-clause-in_range
stamp_all-count-requires-in-Some-clause-in_range c =
    let counting = IsCounting (edges_below c.args.starts.now c.args.uppers.now c.args.rank) c.args.links.now c.args.rank c.children.stamps c.children.count in
    let low : c.in-Some.lower < c.args.rank =
    (counting_child (edges_below c.args.starts.now c.args.uppers.now c.args.rank) c.args.links.now c.args.rank c.in-Some.lower c.children.stamps c.children.count
    (subst counting c.in-Some.is c.children.invariant)).0 in
    let same : c.part.result.now ≡ up_of (edges_below c.args.starts.now c.args.uppers.now c.args.rank) c.in-Some.lower =
    c.part.ensures ∙ sym (up_below c.args.starts.now c.args.uppers.now c.args.rank c.in-Some.lower low) in
    let range = group_in_range (edges_below c.args.starts.now c.args.uppers.now c.args.rank) (length c.args.stamps.now) c.args.rank c.in-Some.lower c.part.result.now c.requires.before.edges same in
    λ k d h. omega (arith, range k d h, c.children.auto.stamps, c.stamp_all-count.auto.stamps, length-set c.args.stamps.now c.args.rank (c.args.rank + 1))

pub children-smaller : goal.children-smaller
children-smaller c =
    let counting = IsCounting (edges_below c.args.starts.now c.args.uppers.now c.args.rank) c.args.links.now c.args.rank c.children.stamps c.children.count in
    let child = counting_child (edges_below c.args.starts.now c.args.uppers.now c.args.rank) c.args.links.now c.args.rank c.in-Some.lower c.children.stamps c.children.count
    (subst counting c.in-Some.is c.children.invariant) in
    subst (λ o. latest_size c.index-child-in-Some.result.now < latest_size o) (sym c.in-Some.is)
    (handing_falls (edges_below c.args.starts.now c.args.uppers.now c.args.rank) (length c.args.stamps.now) c.args.rank c.in-Some.lower c.args.children.now
    c.index-child-in-Some.result.now c.requires.below child.0 child.1 c.requires.before.handed c.index-child-in-Some.ensures)

pub children-preserved : goal.children-preserved
children-preserved c =
    let counting = IsCounting (edges_below c.args.starts.now c.args.uppers.now c.args.rank) c.args.links.now c.args.rank c.children.stamps c.children.count in
    let now : counting (Some c.in-Some.lower) = subst counting c.in-Some.is c.children.invariant in
    let low : c.in-Some.lower < c.args.rank =
    (counting_child (edges_below c.args.starts.now c.args.uppers.now c.args.rank) c.args.links.now c.args.rank c.in-Some.lower c.children.stamps c.children.count now).0 in
    let same : c.part.result.now ≡ up_of (edges_below c.args.starts.now c.args.uppers.now c.args.rank) c.in-Some.lower =
    c.part.ensures ∙ sym (up_below c.args.starts.now c.args.uppers.now c.args.rank c.in-Some.lower low) in
    let few : length c.stamp_all-count-in-Some.new.stamps ≤ MAX_NODES =
    omega (arith, c.requires.few, c.children.auto.stamps, c.stamp_all-count.auto.stamps, c.stamp_all-count-in-Some.auto.stamps, length-set c.args.stamps.now c.args.rank (c.args.rank + 1)) in
    counting_more (edges_below c.args.starts.now c.args.uppers.now c.args.rank) c.args.links.now (length c.args.stamps.now) c.args.rank c.in-Some.lower
    c.children.count c.stamp_all-count-in-Some.result c.children.stamps c.stamp_all-count-in-Some.new.stamps c.part.result.now c.args.children.now
    c.index-child-in-Some.result.now c.requires.below few now same c.stamp_all-count-in-Some.ensures c.requires.before.handed c.index-child-in-Some.ensures

pub returns : goal.returns
returns c =
    let none : c.children.child ≡ None = is_none c.children.child (λ x e. c.in_default.not-Some x e) in
    let edges = edges_below c.args.starts.now c.args.uppers.now c.args.rank in
    record {
      counts = counting_all edges c.args.links.now c.args.rank c.children.stamps c.children.count
          (subst (IsCounting edges c.args.links.now c.args.rank c.children.stamps c.children.count) none c.children.invariant);
    }
