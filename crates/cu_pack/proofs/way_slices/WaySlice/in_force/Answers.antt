use Rattle.std.proofs.Common.{◌<◌, arith, rules}
use Rattle.cu_pack.proofs.Read.InForce.{way_in_force}
use Rattle.cu_pack.proofs.Read.WayRows.{way_slice_begun, way_slice_long, way_slice_rises}
use Rattle.cu_pack.proofs.way_slices.WaySlice.in_force.Goals as goal

pub count_up_to-next-requires-clause-rising : goal.count_up_to-next-requires-clause-rising
count_up_to-next-requires-clause-rising c = let s = c.self.inside in way_slice_rises s.body s.at s.count c.args.self.now c.self.invariant c.self.view_is

pub entry-entry-requires : goal.entry-entry-requires
entry-entry-requires c =
    let s = c.self.inside in
    let some : 0 < s.count = search rules in
    let begun = way_slice_begun s.body s.at s.count c.args.self.now c.self.invariant c.self.view_is _ c.count_up_to-next.result some c.count_up_to-next.ensures in
    let long = way_slice_long s.body s.at s.count c.args.self.now c.self.invariant c.self.view_is in
    omega (arith, begun.0, c.count_up_to-next.ensures.within, long)

pub returns : goal.returns
returns c =
    let s = c.self.inside in
    let some : 0 < s.count = search rules in
    record {
      found = way_in_force s.body s.at s.count c.args.self.now c.self.invariant c.self.view_is c.args.second c.count_up_to-next.result c.begin_or_day.result c.entry-entry.result
          c.requires.day some c.count_up_to-next.ensures c.entry-entry.ensures c.begin_or_day.ensures.begin;
    }
