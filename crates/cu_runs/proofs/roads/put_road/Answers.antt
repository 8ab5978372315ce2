use Rattle.std.proofs.Common.{◌∙◌, ◌++◌, ◌∷◌, [], List, ap, map}
use Rattle.cu_model.specs.Roads.{pieces_of}
use Rattle.cu_arrival.specs.declared.runs.Run.{Run}
use Rattle.cu_arrival.specs.Steps.OfPieces.{run_of}
use Rattle.cu_runs.proofs.RoadRuns.{road_function_packed}
use Rattle.cu_runs.proofs.roads.put_road.Goals as goal

pub returns-clause-function : goal.returns-clause-function
returns-clause-function g c =
    (road_function_packed (g.R.Roads.network c.args.roads.now) c.args.arc c.arc.result c.push.new.self.items c.end.result c.arc.ensures.sound c.arc.ensures.there c.end.ensures
    (c.in_ok-push.ensures.items
    ∙ ap (λ (xs : List Run). xs ++ c.end.result ∷ [])
    (c.in_ok-put_pieces.ensures ∙ ap (λ (xs : List Run). xs
    ++ map run_of (pieces_of (g.R.Roads.network c.args.roads.now) c.arc.result.profile)) c.clear.ensures.items))).0

pub returns-clause-value : goal.returns-clause-value
returns-clause-value g c =
    (road_function_packed (g.R.Roads.network c.args.roads.now) c.args.arc c.arc.result c.push.new.self.items c.end.result c.arc.ensures.sound c.arc.ensures.there c.end.ensures
    (c.in_ok-push.ensures.items
    ∙ ap (λ (xs : List Run). xs ++ c.end.result ∷ [])
    (c.in_ok-put_pieces.ensures ∙ ap (λ (xs : List Run). xs
    ++ map run_of (pieces_of (g.R.Roads.network c.args.roads.now) c.arc.result.profile)) c.clear.ensures.items))).1
