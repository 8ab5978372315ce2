use Rattle.std.proofs.Common.{◌≡◌, ◌∙◌, ◌*◌, ◌∷◌, ◌++◌, [], List, ap, sym, arith}
use Rattle.std.proofs.lemmas.List.FromFn.{map-range_with_len_more}
use Rattle.cu_roads.specs.declared.places.Place.{Place}
use Rattle.cu_roads.specs.Grids.{grid_place, grid_places}
use Rattle.cu_roads.proofs.grids.places_of.Goals as goal

pub loop-node-preserved : goal.loop-node-preserved
loop-node-preserved c =
    let node = c.loop-node.node in
    c.in_ok-push.ensures.items
    ∙ ap (λ (places : List Place). places ++ (grid_place c.args.width node ∷ [])) c.loop-node.invariant
    ∙ sym (map-range_with_len_more (grid_place c.args.width) 0 node node (omega arith))

pub returns : goal.returns
unfolding grid_places
returns c = let whole : c.loop-node.node ≡ c.args.width * c.args.height = omega arith in rw whole at c.loop-node.invariant
