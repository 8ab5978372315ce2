-- A profile's pieces as runs are a function with the profile's values.
use Rattle.std.proofs.Common.{◌≡◌, ◌≤◌, ◌<◌, ◌+◌, ◌-◌, ◌++◌, ◌∙◌, ℕ, List, [], ◌∷◌, Option, Some, true, refl, sym, ap, subst, arith, inl, inr, ltb, map, get_or, length, take, append_assoc}
use Rattle.std.specs.Prelude.{slice_get}
use Rattle.std.proofs.lemmas.Bool.{and_parts, leb-true}
use Rattle.std.proofs.lemmas.List.{map-append, take_more}
use Rattle.std.proofs.lemmas.List.Elements.{All-map, All-push}
use Rattle.std.proofs.lemmas.Option.{get_or_from_slice_get, slice_get_cases, slice_get_within}
use Rattle.cu_model.specs.declared.limits.TheConstants.{MAX_TRAVEL, MAX_UNTIL}
use Rattle.cu_model.specs.declared.profiles.Piece.{Piece}
use Rattle.cu_model.specs.declared.profiles.Rule.{Rule}
use Rattle.cu_model.specs.declared.profiles.Rule.TheVariants.{Travel, Until, Closed}
use Rattle.cu_model.specs.declared.roads.RoadArc.{RoadArc}
use Rattle.cu_model.specs.Days.{day}
use Rattle.cu_model.specs.Networks.{NetworkValue, IsNetwork}
use Rattle.cu_model.specs.Profiles.{profile_value, is_in_limit, is_rule_in_limit, IsProfile}
use Rattle.cu_model.specs.Roads.{arc_value, value_by, value_of, pieces_of, pieces_or_none}
use Rattle.cu_model.proofs.Begun.{starts_begun}
use Rattle.cu_model.proofs.RoadLaws.{all_at, profile_of_road}
use Rattle.cu_model.proofs.FaultLaws.{piece_begins}
use Rattle.cu_arrival.specs.declared.runs.Run.{Run}
use Rattle.cu_arrival.specs.Runs.{run_at, run_value, rule_value, rule_number, arrival_value}
use Rattle.cu_arrival.specs.Steps.OfPieces.{run_of, run_rule}
use Rattle.cu_arrival.proofs.PieceLaws.{value_map, profile_function}
use Rattle.cu_arrival.proofs.RunLaws.{arrival_value-next_day, value_in_day}
use Rattle.cu_arrival.proofs.Built.{arrives-value}
use Rattle.cu_runs.specs.declared.packed_runs.TheConstants.{MAX_NUMBER}
use Rattle.cu_runs.specs.Least.{KeepsDayOrder}
use Rattle.cu_runs.specs.PackedRuns.{IsPackedFunction, end_run}
use Rattle.cu_runs.specs.Steps.Linking.{IsSaid}
use Rattle.cu_runs.proofs.LinkLaws.{closed}
use Rattle.cu_runs.proofs.ReadLaws.{day_order}

rule_small : (r : Rule) → is_rule_in_limit r ≡ true → rule_number (run_rule r) ≤ MAX_NUMBER
rule_small (Travel d) h = let most = leb-true d MAX_TRAVEL h in omega (arith, most)
rule_small (Until c) h = let most = leb-true c MAX_UNTIL h in omega (arith, most)
rule_small (Closed v) h = omega arith

piece_small : (p : Piece) → is_in_limit p ≡ true → rule_number (run_of p).rule ≤ MAX_NUMBER
piece_small p h = rule_small p.rule (and_parts (ltb p.from day) (is_rule_in_limit p.rule) h).1

-- each piece of a profile of a network begins in the day
pub piece_from : (g : NetworkValue) (profile i : ℕ) (piece : Piece) → IsNetwork g → profile < length g.profiles → slice_get (pieces_of g profile) i ≡ Some piece → piece.from ≤ day
piece_from g profile i piece n inside there =
    elim (slice_get_cases g.profiles profile).1 [
      | inl (pieces, within, at, same) ↦
          let valid = all_at IsProfile g.profiles profile pieces n.valid at in
          let here : slice_get pieces i ≡ Some piece = subst (λ (ps : List Piece). slice_get ps i ≡ Some piece) (ap pieces_or_none at) there in
          let from = piece_begins piece (all_at (λ (p : Piece). is_in_limit p ≡ true) pieces i piece valid.limits here) in
          omega (arith, from)
      | inr past ↦ absurd (let over = past.0 in omega (arith, over, inside))
    ]

-- a run more for a piece more
pub pieces_more : (ps : List Piece) (before old new : List Run) (i : ℕ) (piece : Piece) (run : Run) → slice_get ps i ≡ Some piece → run ≡ run_of piece
    → old ≡ before ++ map run_of (take i ps) → new ≡ old ++ run ∷ []
    → new ≡ before ++ map run_of (take (i + 1) ps)
pieces_more ps before old new i piece run there is_packed_run is_old is_new =
    let more : take (i + 1) ps ≡ take i ps ++ piece ∷ [] =
    take_more ps i piece (slice_get_within ps i piece there) ∙ ap (λ (p : Piece). take i ps ++ p ∷ []) (get_or_from_slice_get ps i piece piece there) in
    let both : map run_of (take (i + 1) ps) ≡ map run_of (take i ps) ++ run_of piece ∷ [] = ap (map run_of) more ∙ map-append run_of (take i ps) (piece ∷ []) in
    is_new ∙ ap (λ (xs : List Run). xs ++ run ∷ []) is_old ∙ append_assoc before (map run_of (take i ps)) (run ∷ [])
    ∙ ap (λ (r : Run). before ++ (map run_of (take i ps) ++ r ∷ [])) is_packed_run ∙ ap (λ (xs : List Run). before ++ xs) (sym both)

module _ (ps : List Piece) (is : IsProfile ps) where
  pieces_said : IsSaid (profile_value ps) (map run_of ps) day
  pieces_said =
      let runs = map run_of ps in
      let f = profile_function ps is in
      record {
        starts = λ positive. f.starts;
        empty = λ none. absurd (omega (arith, none));
        rises = f.rises;
        below = λ i d h. (f.limits i d h).0;
        holds = λ s h.
            let (run, there) = starts_begun (λ (r : Run). r.from) runs s f.starts in
            let of_run : run_value (run_at runs s) 0 s ≡ rule_value run.rule 0 s = rw there refl in
            (run, there, sym (arrives-value run.rule s) ∙ sym of_run ∙ sym (value_in_day runs s h) ∙ value_map ps s);
      }

  pieces_order : KeepsDayOrder (profile_value ps)
  pieces_order = record {
    in_day = λ s h. is.fifo s (omega (arith, h));
    midnight =
        let runs = map run_of ps in
        let step : profile_value ps 86399 ≤ profile_value ps (day + 0) = is.fifo 86399 (omega arith) in
        let next = arrival_value-next_day runs (profile_function ps is) 0 in
        let over = value_map ps (day + 0) in
        let start = value_map ps 0 in
        omega (arith, step, next, over, start);
  }

  pub pieces_function : IsPackedFunction (map run_of ps ++ end_run ∷ []) × ((t : ℕ) → t < day → arrival_value (map run_of ps ++ end_run ∷ []) t ≡ profile_value ps t)
  pieces_function =
      let (over_day, value) = closed (profile_value ps) (map run_of ps) pieces_said in
      let order = pieces_order in (
        record {
          over_day = over_day;
          limits = All-push (λ (r : Run). rule_number r.rule ≤ MAX_NUMBER) (map run_of ps) end_run
              (All-map (λ (r : Run). rule_number r.rule ≤ MAX_NUMBER) run_of ps (λ k d h. piece_small (get_or ps k d) (is.limits k d h))) (omega arith);
          fifo = day_order (map run_of ps ++ end_run ∷ []) over_day record {
            in_day = λ s h. let here = value s (omega (arith, h)) in let next = value (s + 1) h in let up = order.in_day s h in omega (arith, here, next, up);
            midnight = let here = value (day - 1) (omega arith) in let next = value 0 (omega arith) in let up = order.midnight in omega (arith, here, next, up);
          };
        },
        value,
      )

-- the runs of a road's profile are the road's function
pub road_function_packed : (g : NetworkValue) (a : ℕ) (arc : RoadArc) (packed : List Run) (end : Run) → IsNetwork g → slice_get g.arcs a ≡ Some arc → end ≡ end_run
    → packed ≡ map run_of (pieces_of g arc.profile) ++ end ∷ []
    → IsPackedFunction packed × ((t : ℕ) → t < day → arrival_value packed t ≡ arc_value g a t)
road_function_packed g a arc packed end n there is_end is_packed =
    let (pieces, profile, valid) = profile_of_road g n a arc there in
    let same : pieces_of g arc.profile ≡ pieces = ap pieces_or_none profile in
    let all : packed ≡ map run_of pieces ++ end_run ∷ [] = is_packed ∙ ap (λ (ps : List Piece). map run_of ps ++ end ∷ []) same ∙ ap (λ (r : Run). map run_of pieces ++ r ∷ []) is_end in
    let (function, value) = pieces_function pieces valid in
    let of_arc : (t : ℕ) → profile_value pieces t ≡ arc_value g a t =
    λ t. sym (ap (λ (o : Option RoadArc). value_by g o t) there ∙ ap (λ (o : Option (List Piece)). value_of o t) profile) in
    subst (λ (ws : List Run). IsPackedFunction ws × ((t : ℕ) → t < day → arrival_value ws t ≡ arc_value g a t)) (sym all) (function, λ t h. value t h ∙ of_arc t)
