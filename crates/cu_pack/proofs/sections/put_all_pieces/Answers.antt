use Rattle.std.proofs.Common.{arith, flat_map}
use Rattle.cu_pack.specs.Spelling.{piece_bytes}
use Rattle.cu_model.specs.Roads.{pieces_of}
use Rattle.cu_pack.proofs.Numbering.Totals.{pieces_there}
use Rattle.cu_pack.proofs.Spelled.Growing.{grows_all, grows_more}
use Rattle.cu_pack.proofs.sections.put_all_pieces.Goals as goal

pub loop-profile-init : goal.loop-profile-init
loop-profile-init g c = g.met.T.Target.stays c.args.bytes.now

pub loop-profile-preserved : goal.loop-profile-preserved
loop-profile-preserved g c =
    let network = g.R.Roads.network c.args.roads.now in
    let profile = c.loop-profile.profile in
    grows_more g.T.Target.grows g.met.T.Target.more (flat_map piece_bytes) network.profiles profile (pieces_of network profile)
    c.args.bytes.now c.loop-profile.bytes c.put_pieces.new.bytes (pieces_there network profile (omega arith)) c.loop-profile.invariant
    c.in_ok-put_pieces.ensures

pub returns : goal.returns
returns g c =
    grows_all g.T.Target.grows (flat_map piece_bytes) (g.R.Roads.network c.args.roads.now).profiles c.loop-profile.profile
    c.args.bytes.now c.loop-profile.bytes (omega arith) c.loop-profile.invariant
