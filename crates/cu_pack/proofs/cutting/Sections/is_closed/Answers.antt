use Rattle.std.proofs.Common.{◌≡◌, ◌∙◌, ℕ, ap, sym, arith}
use Rattle.cu_model.specs.declared.roads.RoadArc.{RoadArc}
use Rattle.cu_model.specs.Profiles.{is_closed}
use Rattle.cu_pack.specs.Reading.{arc_in, piece_from, piece_place, profile_start}
use Rattle.cu_pack.proofs.Read.Driven.{arc_profile, closed_first, closed_same, pieces_same, start_rises, start_within}
use Rattle.cu_pack.proofs.cutting.Sections.is_closed.Goals as goal

pub profile_start-first-requires : goal.profile_start-first-requires
profile_start-first-requires c =
    let there = arc_profile c.args.self.now c.requires.roads c.args.arc c.requires.arc in
    let same : c.arc-profile.result.profile ≡ (arc_in c.args.self.now c.args.arc).profile = ap (λ (road : RoadArc). road.profile) c.arc-profile.ensures.road in
    record { profile = omega (arith, there, same) }

pub piece-requires : goal.piece-requires
piece-requires c =
    let bytes = c.args.self.now in
    let profile = (arc_in bytes c.args.arc).profile in
    let there = arc_profile bytes c.requires.roads c.args.arc c.requires.arc in
    let rises = start_rises bytes c.requires.roads profile there in
    let within = start_within bytes c.requires.roads profile there in
    let same = c.profile_start-first.ensures.start ∙ ap (λ (road : RoadArc). profile_start bytes road.profile) c.arc-profile.ensures.road in
    record { piece = omega (arith, rises, within, same) }

pub returns : goal.returns
returns c =
    let bytes = c.args.self.now in
    let profile = (arc_in bytes c.args.arc).profile in
    let there = arc_profile bytes c.requires.roads c.args.arc c.requires.arc in
    let same = c.profile_start-first.ensures.start ∙ ap (λ (road : RoadArc). profile_start bytes road.profile) c.arc-profile.ensures.road in
    let read = c.piece.ensures.piece ∙ ap (λ (n : ℕ). piece_from bytes (piece_place bytes n)) same in
    let closed = closed_same bytes c.args.arc c.requires.arc ∙ ap is_closed (pieces_same bytes profile there) ∙ closed_first bytes c.requires.roads profile there c.piece.result read in
    record { closed = c.is_closed.ensures ∙ sym closed }
