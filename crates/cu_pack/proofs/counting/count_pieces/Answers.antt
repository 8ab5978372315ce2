use Rattle.std.proofs.Common.{◌<◌, length, arith}
use Rattle.cu_pack.proofs.Numbering.Totals.{pieces_in_limit, pieces_there, total_more, total_within}
use Rattle.cu_model.specs.Roads.{pieces_of}
use Rattle.cu_pack.proofs.counting.count_pieces.Goals as goal

pub overflow_add-count : goal.overflow_add-count
overflow_add-count g c =
    let net = g.R.Roads.network c.args.roads.now in
    let inside : c.loop-profile.profile < length net.profiles = omega arith in
    let within = total_within net.profiles c.loop-profile.profile (pieces_of net c.loop-profile.profile) (pieces_there net c.loop-profile.profile inside) in
    let limit = pieces_in_limit net c.pieces.ensures.sound in
    omega (arith, within, limit, c.loop-profile.invariant, c.pieces.ensures.count, c.from-count.ensures)

pub loop-profile-preserved : goal.loop-profile-preserved
loop-profile-preserved g c =
    let net = g.R.Roads.network c.args.roads.now in
    let inside : c.loop-profile.profile < length net.profiles = omega arith in
    let more = total_more net.profiles c.loop-profile.profile (pieces_of net c.loop-profile.profile) (pieces_there net c.loop-profile.profile inside) in
    omega (arith, more, c.loop-profile.invariant, c.pieces.ensures.count, c.from-count.ensures)
