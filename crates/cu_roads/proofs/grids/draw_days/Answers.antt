use Rattle.std.proofs.Common.{◌∙◌, ◌∷◌, ◌++◌, [], List, ap, sym}
use Rattle.cu_model.specs.declared.profiles.Piece.{Piece}
use Rattle.cu_roads.specs.Draws.{after}
use Rattle.cu_roads.specs.Grids.{drawn_day, drawn_days}
use Rattle.cu_roads.proofs.DrawSteps.{after_none}
use Rattle.cu_roads.proofs.DrawnGrids.{after_day, days_more, days_none}
use Rattle.cu_roads.proofs.grids.draw_days.Goals as goal

pub loop-init : goal.loop-init
loop-init c = record {
  days = c.new-profiles.ensures.items ∙ sym (days_none c.args.draws.now);
  state = sym (after_none c.args.draws.now);
}

pub loop-preserved : goal.loop-preserved
loop-preserved c =
    let start = c.args.draws.now in
    let count = c.loop.counter in
    let before = c.loop.invariant in
    let day = c.in_ok-draw_profile.ensures.day ∙ ap drawn_day before.state in
    record {
      days = c.in_ok-push.ensures.items
          ∙ ap (λ (days : List (List Piece)). days ++ (c.in_ok-draw_profile.field-0 ∷ [])) before.days
          ∙ ap (λ (pieces : List Piece). drawn_days count start ++ (pieces ∷ [])) day
          ∙ sym (days_more count start);
      state = c.in_ok-draw_profile.ensures.state ∙ ap (after 2) before.state ∙ after_day count start;
    }
