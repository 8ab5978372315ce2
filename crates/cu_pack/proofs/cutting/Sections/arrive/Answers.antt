use Rattle.std.proofs.Common.{◌≡◌, ◌%◌, ◌∙◌, ℕ, List, Some, ap, subst, sym}
use Rattle.cu_model.specs.Days.{day}
use Rattle.cu_model.specs.declared.profiles.Piece.{Piece}
use Rattle.cu_model.specs.Profiles.{piece_at}
use Rattle.cu_model.specs.declared.roads.RoadArc.{RoadArc}
use Rattle.cu_model.proofs.RoadLaws.{in_limit}
use Rattle.cu_pack.specs.Reading.{arc_in, profile_in}
use Rattle.cu_pack.specs.Steps.Parts.{HasProfile}
use Rattle.cu_pack.proofs.Read.Driven.{arc_profile, arc_value_same, has_profile}
use Rattle.cu_pack.proofs.Spelled.Passed.{network_valid}
use Rattle.cu_pack.proofs.cutting.Sections.arrive.Goals as goal

pub piece_begun-requires : goal.piece_begun-requires
piece_begun-requires c =
    let bytes = c.args.self.now in
    let same : c.arc-profile.result.profile ≡ (arc_in bytes c.args.arc).profile = ap (λ (road : RoadArc). road.profile) c.arc-profile.ensures.road in
    let has = has_profile bytes c.requires.roads (arc_in bytes c.args.arc).profile (arc_profile bytes c.requires.roads c.args.arc c.requires.arc) in
    record { profile = subst (HasProfile bytes) (sym same) has }

-- the piece that is found is one of the road's profile
of_road : (bytes : List ℕ) (arc profile second days : ℕ) (piece : Piece) → profile ≡ (arc_in bytes arc).profile → days ≡ day
    → piece_at (profile_in bytes profile) (second % days) ≡ Some piece → piece_at (profile_in bytes (arc_in bytes arc).profile) (second % day) ≡ Some piece
of_road bytes arc profile second days piece same whole begun =
    subst (λ (k : ℕ). piece_at (profile_in bytes k) (second % day) ≡ Some piece) same
    (subst (λ (n : ℕ). piece_at (profile_in bytes profile) (second % n) ≡ Some piece) whole begun)

pub arrival-requires-clause-in_limit : goal.arrival-requires-clause-in_limit
arrival-requires-clause-in_limit c =
    let bytes = c.args.self.now in
    let profile = (arc_in bytes c.args.arc).profile in
    let same = ap (λ (road : RoadArc). road.profile) c.arc-profile.ensures.road in
    let has = has_profile bytes c.requires.roads profile (arc_profile bytes c.requires.roads c.args.arc c.requires.arc) in
    let begun = of_road bytes c.args.arc c.arc-profile.result.profile c.args.second c.from.result c.piece_begun.result same c.from.ensures c.piece_begun.ensures.piece in
    in_limit (profile_in bytes profile) (c.args.second % day) c.piece_begun.result has.valid.limits begun

pub returns-clause-value : goal.returns-clause-value
returns-clause-value c =
    let bytes = c.args.self.now in
    let same = ap (λ (road : RoadArc). road.profile) c.arc-profile.ensures.road in
    let begun = of_road bytes c.args.arc c.arc-profile.result.profile c.args.second c.from.result c.piece_begun.result same c.from.ensures c.piece_begun.ensures.piece in
    c.arrival.ensures ∙ sym (arc_value_same bytes c.args.arc c.args.second c.piece_begun.result c.requires.arc (arc_profile bytes c.requires.roads c.args.arc c.requires.arc) begun)

pub returns-clause-sound : goal.returns-clause-sound
returns-clause-sound c = network_valid c.args.self.now c.requires.roads
