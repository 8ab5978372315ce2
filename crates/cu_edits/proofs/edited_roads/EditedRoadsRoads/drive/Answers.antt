use Rattle.std.proofs.Common.{◌≡◌, ◌≤◌, ◌∙◌, ◌%◌, ℕ, ap, sym, subst}
use Rattle.cu_model.specs.Profiles.{piece_at}
use Rattle.cu_model.specs.Roads.{arc_value, pieces_of}
use Rattle.cu_model.proofs.RoadLaws.{arc_value-fifo, arc_value-onward}
use Rattle.cu_edits.proofs.DrivenPieces.{driven_in_limit, driven_value}
use Rattle.cu_edits.proofs.edited_roads.EditedRoadsRoads.drive.Goals as goal

pub arrival-requires-clause-in_limit : goal.arrival-requires-clause-in_limit
arrival-requires-clause-in_limit g c =
    driven_in_limit c.args.self.now c.arc.ensures.sound c.args.arc c.arc.result _ c.piece_begun.result c.arc.ensures.there c.piece_begun.ensures

pub returns-clause-onward : goal.returns-clause-onward
returns-clause-onward g c =
    let value : arc_value c.args.self.now c.args.arc c.args.second ≡ c.arrival.result =
    driven_value c.args.self.now c.arc.ensures.sound c.args.arc c.arc.result c.args.second c.piece_begun.result c.arc.ensures.there
    (ap (λ (s : ℕ). piece_at (pieces_of c.args.self.now c.arc.result.profile) (c.args.second % s)) (sym c.from.ensures) ∙ c.piece_begun.ensures) ∙ sym c.arrival.ensures in
    subst (λ (x : ℕ). c.args.second ≤ x) value (arc_value-onward c.args.self.now c.arc.ensures.sound c.args.arc c.requires.road c.args.second)

pub returns-clause-fifo : goal.returns-clause-fifo
returns-clause-fifo g c later le =
    let value : arc_value c.args.self.now c.args.arc c.args.second ≡ c.arrival.result =
    driven_value c.args.self.now c.arc.ensures.sound c.args.arc c.arc.result c.args.second c.piece_begun.result c.arc.ensures.there
    (ap (λ (s : ℕ). piece_at (pieces_of c.args.self.now c.arc.result.profile) (c.args.second % s)) (sym c.from.ensures) ∙ c.piece_begun.ensures) ∙ sym c.arrival.ensures in
    subst (λ (x : ℕ). x ≤ arc_value c.args.self.now c.args.arc later) value (arc_value-fifo c.args.self.now c.arc.ensures.sound c.args.arc c.requires.road c.args.second later le)
