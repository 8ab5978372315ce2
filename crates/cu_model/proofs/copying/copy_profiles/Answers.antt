use Rattle.cu_model.proofs.Copied.{take_next}
use Rattle.cu_model.proofs.copying.copy_profiles.Goals as goal

pub loop-profile-preserved : goal.loop-profile-preserved
loop-profile-preserved g c =
    take_next (g.N.Roads.network c.args.roads.now).profiles c.loop-profile.profiles.items c.push.new.self.items c.loop-profile.profile
    c.in_ok-copy_profile.field-0 c.in_ok-copy_profile.ensures c.loop-profile.invariant c.in_ok-push.ensures.items
