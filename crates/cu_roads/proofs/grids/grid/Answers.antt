use Rattle.std.proofs.Common.{◌≡◌, ◌∙◌, ◌*◌, ℕ, List, Ok, arith, length, ap, sym, subst}
use Rattle.csv.proofs.RoundTrip.{rows_text}
use Rattle.cu_model.specs.declared.profiles.Piece.{Piece}
use Rattle.cu_model.specs.declared.roads.RoadArc.{RoadArc}
use Rattle.cu_profile.specs.Written.{table_of}
use Rattle.cu_roads.specs.declared.places.Place.{Place}
use Rattle.cu_roads.specs.declared.grids.TheConstants.{PROFILES}
use Rattle.cu_roads.specs.Draws.{after}
use Rattle.cu_roads.specs.Grids.{behind_grid, drawn_roads, grid_ends, grid_network}
use Rattle.cu_roads.specs.NetworkTexts.{network_of}
use Rattle.cu_roads.specs.Written.{ThreeTexts, arc_table, node_table, written_network}
use Rattle.cu_roads.proofs.DrawSteps.{after_more}
use Rattle.cu_roads.proofs.GridLaws.{days_pieces, grid_again, grid_texts, length-days}
use Rattle.cu_roads.proofs.grids.grid.Goals as goal
use Rattle.cu_roads.proofs.grids.grid.Goals.{After-drop-profiles-2}

pub write_profiles-requires-clause-profiles : goal.write_profiles-requires-clause-profiles
write_profiles-requires-clause-profiles c =
    let count = length-days PROFILES c.args.draws.now in
    rw (c.deref-3.ensures.value, c.in_ok-profiles.ensures.days) (omega (arith, count))

pub write_profiles-requires-clause-pieces : goal.write_profiles-requires-clause-pieces
write_profiles-requires-clause-pieces c =
    let sum = days_pieces PROFILES c.args.draws.now in
    rw (c.deref-3.ensures.value, c.in_ok-profiles.ensures.days) (omega (arith, sum))

texts : (c : After-drop-profiles-2)
    → ◌≡◌ {A = ThreeTexts} (record { nodes = c.in_ok-write_places.field-0.items; roads = c.in_ok-write_roads.field-0.items; profiles = c.in_ok-write_profiles.field-0.items })
    (written_network (grid_network c.args.draws.now c.args.width c.args.height))
texts c =
    grid_texts c.args.draws.now c.args.width c.args.height _ _ _
    (c.in_ok-write_places.ensures ∙ ap (λ (places : List Place). rows_text (node_table places)) (c.deref.ensures.value ∙ c.in_ok-places.ensures))
    (c.in_ok-write_roads.ensures ∙ ap (λ (roads : List RoadArc). rows_text (arc_table roads)) (c.deref-2.ensures.value ∙ c.in_ok-roads.ensures.roads)
    ∙ ap (λ (state : ℕ). rows_text (arc_table (drawn_roads (grid_ends c.args.width c.args.height) state))) c.in_ok-profiles.ensures.state)
    (c.in_ok-write_profiles.ensures.text ∙ ap (λ (days : List (List Piece)). rows_text (table_of days)) (c.deref-3.ensures.value ∙ c.in_ok-profiles.ensures.days))

pub returns-clause-texts : goal.returns-clause-texts
returns-clause-texts c = texts c

pub returns-clause-read : goal.returns-clause-read
returns-clause-read c =
    let start = c.args.draws.now in
    subst (λ (t : ThreeTexts). network_of t.nodes t.roads t.profiles ≡ Ok (grid_network start c.args.width c.args.height)) (sym (texts c))
    (grid_again start c.args.width c.args.height c.requires.width.0 c.requires.width.1 c.requires.height.1)

pub returns-clause-behind : goal.returns-clause-behind
unfolding behind_grid
returns-clause-behind c =
    let count = length (grid_ends c.args.width c.args.height) in
    c.in_ok-roads.ensures.state ∙ ap (after count) c.in_ok-profiles.ensures.state ∙ after_more (2 * PROFILES) count c.args.draws.now
