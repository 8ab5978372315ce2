use Rattle.std.proofs.Common.{◌<◌, arith, length}
use Rattle.cu_bounds.proofs.ProfileTravels.{travels_more}
use Rattle.cu_bounds.proofs.travels.least_travels.Goals as goal

pub loop-profile-preserved : goal.loop-profile-preserved
loop-profile-preserved g c =
    let net = g.R.Roads.network c.args.roads.now in
    let lt : c.loop-profile.profile < length net.profiles =
    omega (arith, c.loop-profile-test.true, c.loop-profile.auto.profile-end, c.profiles-profile-end.ensures.count) in
    travels_more net c.profiles.ensures.sound c.loop-profile.profile lt c.loop-profile.travels.items c.push.new.self.items c.least_travel.result
    c.least_travel.ensures c.loop-profile.invariant c.in_ok-push.ensures.items
