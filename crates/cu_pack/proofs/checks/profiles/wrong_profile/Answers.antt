use Rattle.std.proofs.Common.{◌<◌, ◌∙◌, ap, sym, arith, below_more}
use Rattle.cu_pack.specs.declared.layout.Counts.{Counts}
use Rattle.cu_pack.specs.Reading.{counts_in}
use Rattle.cu_pack.proofs.Read.PieceLaws.{not_wrong}
use Rattle.cu_pack.proofs.checks.profiles.wrong_profile.Goals as goal

pub loop-profile-preserved : goal.loop-profile-preserved
loop-profile-preserved c =
    let bytes = c.args.sections.now in
    let inside : c.loop-profile.profile < (counts_in bytes).profiles = omega (arith, ap (λ (counts : Counts). counts.profiles) c.counts-counts.ensures.counts) in
    below_more _ _ c.loop-profile.invariant
    (not_wrong bytes c.loop-profile.profile inside (sym c.profile_start.ensures.start ∙ c.if-profile_start-ne0.false)
    (λ wrong. absurd (cc (c.if-are_pieces_wrong.false, c.are_pieces_wrong.ensures.1 wrong))))
