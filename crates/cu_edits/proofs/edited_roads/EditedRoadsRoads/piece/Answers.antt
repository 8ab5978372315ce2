use Rattle.std.proofs.Common.{◌<◌, ◌∙◌, List, ap, length, arith, subst, sym}
use Rattle.std.specs.Prelude.{slice_get}
use Rattle.std.proofs.lemmas.Option.{slice_get-get_or}
use Rattle.cu_model.specs.declared.profiles.Piece.{Piece}
use Rattle.cu_model.specs.Networks.{NetworkValue}
use Rattle.cu_edits.specs.Together.{edits_of}
use Rattle.cu_edits.proofs.EditedLists.{profiles_all}
use Rattle.cu_edits.proofs.PiecesGiven.{has_pieces, pieces_given}
use Rattle.cu_edits.proofs.edited_roads.EditedRoadsRoads.piece.Goals as goal

pub bounds-pieces-index : goal.bounds-pieces-index
bounds-pieces-index g c =
    let inside = c.self.inside in
    let n = g.R.Roads.network inside.roads.now in
    let count = profiles_all n (edits_of inside.edits) in
    let there = has_pieces c.args.self.now c.args.profile c.args.index c.requires in
    let lt = subst (λ (k : NetworkValue). c.args.profile < length k.profiles) (sym c.self.view_is) there in
    let pieces = pieces_given n c.args.self.now (edits_of inside.edits) c.self.view_is c.args.profile c.last_given.result c.in-Some.given (c.last_given.ensures n c.self.invariant.0)
    c.in-Some.is (omega (arith, lt, count)) in
    subst (λ (ps : List Piece). c.args.index < length ps) (pieces ∙ sym c.pieces.ensures.all) c.requires

pub returns-in-Some-clause-there : goal.returns-in-Some-clause-there
returns-in-Some-clause-there g c =
    let inside = c.self.inside in
    let n = g.R.Roads.network inside.roads.now in
    let count = profiles_all n (edits_of inside.edits) in
    let there = has_pieces c.args.self.now c.args.profile c.args.index c.requires in
    let lt = subst (λ (k : NetworkValue). c.args.profile < length k.profiles) (sym c.self.view_is) there in
    let pieces = pieces_given n c.args.self.now (edits_of inside.edits) c.self.view_is c.args.profile c.last_given.result c.in-Some.given (c.last_given.ensures n c.self.invariant.0)
    c.in-Some.is (omega (arith, lt, count)) in
    let same = pieces ∙ sym c.pieces.ensures.all in
    let within = subst (λ (ps : List Piece). c.args.index < length ps) same c.requires in
    ap (λ (ps : List Piece). slice_get ps c.args.index) same ∙ slice_get-get_or c.pieces.result.now c.args.index _ within
