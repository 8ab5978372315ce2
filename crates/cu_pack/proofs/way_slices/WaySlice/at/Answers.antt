use Rattle.std.proofs.Common.{◌<◌, ◌%◌, ℕ, ap, arith, rules}
use Rattle.cu_pack.proofs.Read.WayRows.{way_slice_begun, way_slice_long, way_slice_rises, way_slice_way}
use Rattle.cu_pack.proofs.way_slices.WaySlice.at.Goals as goal

pub count_up_to-begun-requires-clause-rising : goal.count_up_to-begun-requires-clause-rising
count_up_to-begun-requires-clause-rising c = let s = c.self.inside in way_slice_rises s.body s.at s.count c.args.self.now c.self.invariant c.self.view_is

pub overflow_sub-begun : goal.overflow_sub-begun
overflow_sub-begun c =
    let s = c.self.inside in
    let some : 0 < s.count = search rules in
    let begun = way_slice_begun s.body s.at s.count c.args.self.now c.self.invariant c.self.view_is _ c.count_up_to-begun.result some c.count_up_to-begun.ensures in
    omega (arith, begun.0)

pub entry-requires : goal.entry-requires
entry-requires c =
    let s = c.self.inside in
    let some : 0 < s.count = search rules in
    let begun = way_slice_begun s.body s.at s.count c.args.self.now c.self.invariant c.self.view_is _ c.count_up_to-begun.result some c.count_up_to-begun.ensures in
    let long = way_slice_long s.body s.at s.count c.args.self.now c.self.invariant c.self.view_is in
    omega (arith, begun.0, c.count_up_to-begun.ensures.within, long)

pub returns : goal.returns
returns c =
    let s = c.self.inside in
    let some : 0 < s.count = search rules in
    way_slice_way s.body s.at s.count c.args.self.now c.self.invariant c.self.view_is c.args.second _ c.count_up_to-begun.result c.entry.result
    (ap (λ (n : ℕ). c.args.second % n) c.from.ensures) some c.count_up_to-begun.ensures c.entry.ensures
