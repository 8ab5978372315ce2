use Rattle.std.proofs.Common.{◌<◌, ◌∙◌, List, ap, length, arith, subst, sym}
use Rattle.cu_model.specs.declared.profiles.Piece.{Piece}
use Rattle.cu_model.specs.Networks.{NetworkValue}
use Rattle.cu_edits.specs.Together.{edits_of}
use Rattle.cu_edits.proofs.EditedLists.{profiles_all}
use Rattle.cu_edits.proofs.PiecesGiven.{pieces_given}
use Rattle.cu_edits.proofs.edited_roads.EditedRoadsRoads.pieces.Goals as goal

pub returns-in-Some-clause-count : goal.returns-in-Some-clause-count
returns-in-Some-clause-count g c =
    let inside = c.self.inside in
    let n = g.R.Roads.network inside.roads.now in
    let count = profiles_all n (edits_of inside.edits) in
    let lt = subst (λ (k : NetworkValue). c.args.profile < length k.profiles) (sym c.self.view_is) c.requires in
    let pieces = pieces_given n c.args.self.now (edits_of inside.edits) c.self.view_is c.args.profile c.last_given.result c.in-Some.given (c.last_given.ensures n c.self.invariant.0)
    c.in-Some.is (omega (arith, lt, count)) in
    ap (λ (ps : List Piece). length ps) (c.pieces.ensures.all ∙ sym pieces)
