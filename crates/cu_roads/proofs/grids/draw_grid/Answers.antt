use Rattle.std.proofs.Common.{◌≡◌, ◌∙◌, ◌*◌, ap, length, subst, sym}
use Rattle.cu_model.specs.Networks.{IsNetwork}
use Rattle.cu_roads.specs.declared.grids.TheConstants.{PROFILES}
use Rattle.cu_roads.specs.Draws.{after}
use Rattle.cu_roads.specs.Grids.{behind_grid, drawn_roads, grid_ends, grid_network}
use Rattle.cu_roads.specs.NetworkTexts.{NetworkRead}
use Rattle.cu_roads.proofs.DrawSteps.{after_more}
use Rattle.cu_roads.proofs.GridLaws.{grid_parts, grid_sound, length-places}
use Rattle.cu_roads.proofs.grids.draw_grid.Goals as goal
use Rattle.cu_roads.proofs.grids.draw_grid.Goals.{In_ok-places}

-- what was drawn
abbrev read : (c : In_ok-places) → NetworkRead
read c = record {
  network = record { nodes = c.args.width * c.args.height; arcs = c.in_ok-roads.roads.items; profiles = c.in_ok-profiles.profiles.items };
  places = c.in_ok-places.places.items;
}

is_grid : (c : In_ok-places) → read c ≡ grid_network c.args.draws.now c.args.width c.args.height
is_grid c = grid_parts c.args.draws.now c.args.width c.args.height c.in_ok-roads.roads.items c.in_ok-profiles.profiles.items c.in_ok-places.places.items
    (c.in_ok-roads.ensures.roads ∙ ap (drawn_roads (grid_ends c.args.width c.args.height)) c.in_ok-profiles.ensures.state)
    c.in_ok-profiles.ensures.days c.in_ok-places.ensures

pub of-requires : goal.of-requires
of-requires c =
    subst (λ (read : NetworkRead). IsNetwork read.network) (sym (is_grid (goal.at.of-requires c).In_ok-places))
    (grid_sound c.args.draws.now c.args.width c.args.height c.requires.width.0 c.requires.width.1 c.requires.height.1)

pub returns-clause-network : goal.returns-clause-network
returns-clause-network c = rw c.of.ensures (is_grid (goal.at.returns-clause-network c).In_ok-places)

pub returns-clause-places : goal.returns-clause-places
returns-clause-places c =
    rw c.of.ensures (ap length c.in_ok-places.ensures ∙ length-places c.args.width c.args.height)

pub returns-clause-behind : goal.returns-clause-behind
unfolding behind_grid
returns-clause-behind c =
    let count = length (grid_ends c.args.width c.args.height) in
    c.in_ok-roads.ensures.state ∙ ap (after count) c.in_ok-profiles.ensures.state ∙ after_more (2 * PROFILES) count c.args.draws.now
