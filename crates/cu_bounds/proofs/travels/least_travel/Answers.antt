use Rattle.std.proofs.Common.{◌≡◌, ◌-◌, ◌∙◌, ℕ, ap, arith, drop, min}
use Rattle.cu_model.specs.Roads.{pieces_of}
use Rattle.cu_interval.specs.LeastPieces.{pieces_least}
use Rattle.cu_bounds.proofs.ProfileTravels.{least_small, taken_more}
use Rattle.cu_bounds.proofs.travels.least_travel.Goals as goal

pub loop-index-preserved : goal.loop-index-preserved
loop-index-preserved g c =
    taken_more (pieces_of (g.R.Roads.network c.args.roads.now) c.args.profile) c.loop-index.index (c.loop-index.index - 1) c.piece-piece.result
    c.loop-index.least c.loop-index.until c.min-least.result (omega (arith, c.loop-index-test.true)) c.piece-piece.ensures.there
    (c.min-least.ensures ∙ ap (min c.loop-index.least) (c.from.ensures ∙ c.least_of_rule.ensures)) c.loop-index.invariant

pub overflow_cast-result : goal.overflow_cast-result
overflow_cast-result g c =
    let small = least_small (g.R.Roads.network c.args.roads.now) c.pieces-index.ensures.sound c.args.profile c.requires in
    let none : c.loop-index.index ≡ 0 = omega (arith, c.loop-index-test.false) in
    let travel = c.loop-index.invariant.travel in
    let whole = ap (λ (i : ℕ). pieces_least (drop i (pieces_of (g.R.Roads.network c.args.roads.now) c.args.profile))) none in
    omega (arith, small, travel, whole)
