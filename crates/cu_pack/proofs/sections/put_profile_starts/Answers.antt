use Rattle.std.proofs.Common.{◌≡◌, ◌+◌, ◌∙◌, ◌++◌, ℕ, [], length, drop, flat_map, ap, refl, sym, arith}
use Rattle.std.proofs.lemmas.Result.{on_ok_weaker}
use Rattle.cu_model.specs.Roads.{pieces_of}
use Rattle.cu_pack.specs.Spelling.{long, starts_from}
use Rattle.cu_pack.proofs.Spelled.Growing.{grows_same}
use Rattle.cu_pack.proofs.Spelled.Putting.{start_last, start_more}
use Rattle.cu_pack.proofs.Numbering.Totals.{pieces_in_limit, pieces_there, total_more, total_within}
use Rattle.cu_pack.proofs.sections.put_profile_starts.Goals as goal

pub overflow_add-start : goal.overflow_add-start
overflow_add-start g c =
    let net = g.R.Roads.network c.args.roads.now in
    let profile = c.loop-profile.profile in
    let there = pieces_there net profile (omega arith) in
    let within = total_within net.profiles profile (pieces_of net profile) there in
    let limit = pieces_in_limit net c.pieces.ensures.sound in
    omega (arith, within, limit, c.loop-profile.invariant.start, c.pieces.ensures.count, c.from-start.ensures)

pub loop-profile-init : goal.loop-profile-init
loop-profile-init g c = record { start = refl; done = []; grows = g.met.T.Target.stays c.args.bytes.now; put = refl }

pub loop-profile-preserved : goal.loop-profile-preserved
loop-profile-preserved g c =
    let net = g.R.Roads.network c.args.roads.now in
    let profile = c.loop-profile.profile in
    let start = c.loop-profile.start in
    let before = c.loop-profile.invariant.done in
    let there = pieces_there net profile (omega arith) in
    let more = total_more net.profiles profile (pieces_of net profile) there in
    let count : start + length (pieces_of net profile) ≡ start + c.from-start.result = omega (arith, c.pieces.ensures.count, c.from-start.ensures) in
    let whole = flat_map long (starts_from 0 net.profiles) in
    let put = start_more net.profiles profile start before (before ++ long start) whole c.loop-profile.invariant.put refl (pieces_of net profile) there in
    record {
      start = omega (arith, more, count, c.loop-profile.invariant.start);
      done = before ++ long start;
      grows = g.met.T.Target.more _ _ _ _ _ c.loop-profile.invariant.grows c.in_ok-put_long.ensures;
      put = ap (λ (n : ℕ). (before ++ long start) ++ flat_map long (starts_from n (drop (profile + 1) net.profiles))) (sym count) ∙ put;
    }

pub returns : goal.returns
returns g c =
    let net = g.R.Roads.network c.args.roads.now in
    let start = c.loop-profile.start in
    let before = c.loop-profile.invariant.done in
    let whole = flat_map long (starts_from 0 net.profiles) in
    let all = start_last net.profiles c.loop-profile.profile start before (before ++ long start) whole c.loop-profile.invariant.put refl (omega arith) in
    on_ok_weaker c.put_long-2.result
    (λ e. grows_same g.T.Target.grows _ _ _ _ all (g.met.T.Target.more _ _ _ _ _ c.loop-profile.invariant.grows e))
    c.put_long-2.ensures
