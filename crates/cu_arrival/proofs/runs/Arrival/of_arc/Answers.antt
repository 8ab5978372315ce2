use Rattle.std.proofs.Common.{◌≡◌, ◌∙◌, ℕ, List, Option, Some, ap, sym, subst}
use Rattle.std.specs.Prelude.{slice_get}
use Rattle.cu_model.specs.declared.profiles.Piece.{Piece}
use Rattle.cu_model.specs.declared.roads.RoadArc.{RoadArc}
use Rattle.cu_model.specs.Profiles.{IsProfile, profile_value}
use Rattle.cu_model.specs.Networks.{NetworkValue, IsNetwork}
use Rattle.cu_model.specs.Roads.{arc_value, value_by, value_of, pieces_of, pieces_or_none}
use Rattle.cu_model.proofs.RoadLaws.{profile_of_road}
use Rattle.cu_arrival.specs.declared.runs.Run.{Run}
use Rattle.cu_arrival.specs.Runs.{arrival_value, IsArrivalFunction}
use Rattle.cu_arrival.proofs.PieceLaws.{value_map, profile_function}
use Rattle.cu_arrival.proofs.runs.Arrival.of_arc.Goals as goal

-- the profile of a road of a network is there and valid
road_profile : (n : NetworkValue) (a : ℕ) (arc : RoadArc) → IsNetwork n → slice_get n.arcs a ≡ Some arc
    → IsProfile (pieces_of n arc.profile) × ((t : ℕ) → profile_value (pieces_of n arc.profile) t ≡ arc_value n a t)
road_profile n a arc is there =
    let (pieces, profile, valid) = profile_of_road n is a arc there in
    let same : pieces_of n arc.profile ≡ pieces = ap pieces_or_none profile in (
      subst IsProfile (sym same) valid,
      λ t. ap (λ (ps : List Piece). profile_value ps t) same
          ∙ sym (ap (λ (o : Option RoadArc). value_by n o t) there ∙ ap (λ (o : Option (List Piece)). value_of o t) profile),
    )

pub of_runs-requires : goal.of_runs-requires
of_runs-requires g c =
    let road = road_profile (g.N.Roads.network c.args.roads.now) c.args.arc c.arc.result c.arc.ensures.sound c.arc.ensures.there in
    subst IsArrivalFunction (sym c.in_ok-runs.ensures) (profile_function (pieces_of (g.N.Roads.network c.args.roads.now) c.arc.result.profile) road.0)

pub returns-clause-value : goal.returns-clause-value
returns-clause-value g c t =
    let pieces = pieces_of (g.N.Roads.network c.args.roads.now) c.arc.result.profile in
    let road = road_profile (g.N.Roads.network c.args.roads.now) c.args.arc c.arc.result c.arc.ensures.sound c.arc.ensures.there in
    ap (λ (runs : List Run). arrival_value runs t) (c.of_runs.ensures ∙ c.in_ok-runs.ensures) ∙ value_map pieces t ∙ road.1 t
