use Rattle.std.proofs.Common.{◌≡◌, ◌+◌, ◌-◌, ◌<◌, ℕ, Some, None, Err, arith, length, length-set, subst, sym, List}
use Rattle.std.proofs.lemmas.Bool.Decides.{Decides-eqb}
use Rattle.std.proofs.lemmas.Map.Made.{IsDistinct-from_AllPairs}
use Rattle.cu_chordal.specs.declared.closure.CloseRefusal.TheVariants.{TooManyEdges}
use Rattle.cu_chordal.specs.Steps.Closing.{Gathers}
use Rattle.cu_chordal.specs.Steps.Flat.{edges_in}
use Rattle.cu_chordal.proofs.Handing.{IsHanding, edges_fit, group_in_range, handing_all, handing_falls, handing_more, handing_none, is_none, latest_size, crowded_by_child, crowded_by_links, passed_on}
use Rattle.cu_chordal.specs.declared.graph.TheConstants.{MAX_EDGES}
use Rattle.cu_chordal.proofs.closure.gather_all.Goals as goal

pub overflow_sub-room : goal.overflow_sub-room
overflow_sub-room c =
    let fits = edges_fit (length c.args.stamps.now) c.args.rank c.args.table.now c.args.children.now c.args.stamps.now c.requires.before in
    omega (arith, fits, c.len.ensures, c.args.table.now.lows.ok.0)

pub returns-in_err-gather-clause-too_many : goal.returns-in_err-gather-clause-too_many
returns-in_err-gather-clause-too_many c = λ h.
    let e : c.gather.result ≡ Err TooManyEdges = passed_on c.gather.result c.from_residual.result c.in_err-gather.field-0.0 TooManyEdges c.in_err-gather.was c.from_residual.ensures.1 h in
    let long : (MAX_EDGES - c.len.result) ≡ MAX_EDGES - length c.args.table.now.lows.items = omega (arith, c.len.ensures, c.args.table.now.lows.ok.0) in
    crowded_by_links c.args.table.now c.args.links.now c.new-part.result.items c.args.rank (MAX_EDGES - c.len.result) c.new-part.ensures.items long (c.gather.ensures.too_many e)

pub children-init : goal.children-init
children-init c =
    handing_none (edges_in c.args.table.now) c.args.links.now (length c.args.stamps.now) c.args.rank (MAX_EDGES - c.len.result) c.gather.new.stamps
    c.gather.new.part.items c.args.children.now c.index-child.result.now c.requires.below
    c.in_ok-gather.ensures.marked c.in_ok-gather.ensures.room
    (subst (λ (old : List ℕ). Gathers c.args.rank c.args.links.now old c.gather.new.part.items) c.new-part.ensures.items
    c.in_ok-gather.ensures.gathered) c.requires.before.handed c.index-child.ensures

pub gather-requires-in-Some-clause-in_range : goal.gather-requires-in-Some-clause-in_range
gather-requires-in-Some-clause-in_range c =
    let handing = IsHanding (edges_in c.args.table.now) c.args.links.now c.args.rank (MAX_EDGES - c.len.result) c.children.stamps c.children.part.items in
    let hand : handing (Some c.in-Some.lower) = subst handing c.in-Some.is c.children.invariant in
    let low : c.in-Some.lower < c.args.rank = omega (arith, hand.next.0, hand.below) in
    let range = group_in_range (edges_in c.args.table.now) (length c.args.stamps.now) c.args.rank c.in-Some.lower c.up.result.now c.requires.before.edges c.up.ensures in
    λ k d h. omega (arith, range k d h, c.children.auto.stamps, c.gather.auto.stamps, length-set c.args.stamps.now c.args.rank (c.args.rank + 1))

pub returns-in_err-gather-2-clause-too_many : goal.returns-in_err-gather-2-clause-too_many
returns-in_err-gather-2-clause-too_many c = λ h.
    let handing = IsHanding (edges_in c.args.table.now) c.args.links.now c.args.rank (MAX_EDGES - c.len.result) c.children.stamps c.children.part.items in
    let hand : handing (Some c.in-Some.lower) = subst handing c.in-Some.is c.children.invariant in
    let low : c.in-Some.lower < c.args.rank = omega (arith, hand.next.0, hand.below) in
    let e : c.gather-in-Some.result ≡ Err TooManyEdges =
    passed_on c.gather-in-Some.result c.from_residual-in_err-gather-2.result c.in_err-gather-2.field-0.0 TooManyEdges c.in_err-gather-2.was
    c.from_residual-in_err-gather-2.ensures.1 h in
    let long : (MAX_EDGES - c.len.result) ≡ MAX_EDGES - length c.args.table.now.lows.items = omega (arith, c.len.ensures, c.args.table.now.lows.ok.0) in
    crowded_by_child c.args.table.now c.args.links.now c.args.rank (MAX_EDGES - c.len.result) c.in-Some.lower c.children.stamps c.children.part.items c.up.result.now hand
    c.up.ensures long (c.gather-in-Some.ensures.too_many e)

pub children-smaller : goal.children-smaller
children-smaller c =
    let handing = IsHanding (edges_in c.args.table.now) c.args.links.now c.args.rank (MAX_EDGES - c.len.result) c.children.stamps c.children.part.items in
    let hand : handing (Some c.in-Some.lower) = subst handing c.in-Some.is c.children.invariant in
    let low : c.in-Some.lower < c.args.rank = omega (arith, hand.next.0, hand.below) in
    subst (λ o. latest_size c.index-child-in-Some.result.now < latest_size o) (sym c.in-Some.is)
    (handing_falls (edges_in c.args.table.now) (length c.args.stamps.now) c.args.rank c.in-Some.lower c.args.children.now
    c.index-child-in-Some.result.now c.requires.below low hand.next.1 c.requires.before.handed c.index-child-in-Some.ensures)

pub children-preserved : goal.children-preserved
children-preserved c =
    let handing = IsHanding (edges_in c.args.table.now) c.args.links.now c.args.rank (MAX_EDGES - c.len.result) c.children.stamps c.children.part.items in
    let hand : handing (Some c.in-Some.lower) = subst handing c.in-Some.is c.children.invariant in
    let low : c.in-Some.lower < c.args.rank = omega (arith, hand.next.0, hand.below) in
    handing_more (edges_in c.args.table.now) c.args.links.now (length c.args.stamps.now) c.args.rank (MAX_EDGES - c.len.result) c.in-Some.lower
    c.children.stamps c.gather-in-Some.new.stamps c.children.part.items c.gather-in-Some.new.part.items c.up.result.now c.args.children.now
    c.index-child-in-Some.result.now c.requires.below hand c.in_ok-gather-2.ensures.marked c.in_ok-gather-2.ensures.room c.up.ensures c.in_ok-gather-2.ensures.gathered c.requires.before.handed
    c.index-child-in-Some.ensures

pub returns-clause-exact : goal.returns-clause-exact
returns-clause-exact c =
    let none : c.children.child ≡ None = is_none c.children.child (λ x e. c.in_default.not-Some x e) in
    let handing = IsHanding (edges_in c.args.table.now) c.args.links.now c.args.rank (MAX_EDGES - c.len.result) c.children.stamps c.children.part.items in
    handing_all (edges_in c.args.table.now) c.args.links.now c.args.rank (MAX_EDGES - c.len.result) c.children.stamps c.children.part.items
    (subst handing none c.children.invariant)

pub returns-clause-once : goal.returns-clause-once
returns-clause-once c = IsDistinct-from_AllPairs Decides-eqb c.children.part.items c.children.invariant.marked.once

pub returns-clause-room : goal.returns-clause-room
returns-clause-room c =
    let fits = edges_fit (length c.args.stamps.now) c.args.rank c.args.table.now c.args.children.now c.args.stamps.now c.requires.before in
    omega (arith, fits, c.len.ensures, c.args.table.now.lows.ok.0, c.children.invariant.within)
