use Rattle.std.proofs.Common.{◌≡◌, ◌≤◌, ◌∙◌, ◌++◌, ◌∷◌, [], ℕ, List, IsTrue, Bool, ap, subst, sym, arith, below_more, inr, refl}
use Rattle.std.specs.Prelude.{◌↔◌}
use Rattle.cu_model.specs.declared.profiles.Piece.{Piece}
use Rattle.cu_model.specs.Checker.{Checks}
use Rattle.cu_pack.specs.Reading.{piece_kind}
use Rattle.cu_pack.specs.Steps.Pieces.{AreNoProfile, pieces_between}
use Rattle.cu_pack.proofs.Read.PieceLaws.{fault_decides, length-pieces, pieces_more}
use Rattle.cu_pack.proofs.Numbering.Totals.{few_pieces}
use Rattle.cu_pack.proofs.checks.profiles.are_no_profile.Goals as goal

pub returns-then-end-start : goal.returns-then-end-start
returns-then-end-start c =
    let pieces = pieces_between c.args.sections.now c.args.start c.args.end in
    let long = length-pieces c.args.sections.now c.args.start c.args.end in
    (λ _. inr (λ valid. absurd (omega (arith, long, few_pieces pieces valid))), λ _. refl)

pub loop-piece-preserved : goal.loop-piece-preserved
loop-piece-preserved c =
    let bytes = c.args.sections.now in
    let start = c.args.start in
    let at = c.loop-piece.piece in
    let before = pieces_between bytes start at in
    let more = ap (λ (piece : Piece). before ++ piece ∷ []) c.piece.ensures.piece ∙ pieces_more bytes start at c.loop-piece.auto.piece in
    record {
      kinds = λ piece low high.
          below_more (λ (k : ℕ). start ≤ k → piece_kind bytes k ≤ 2) at (λ k lt from. c.loop-piece.invariant.kinds k from lt)
          (λ from. omega (arith, c.piece_kind.ensures.kind)) piece high low;
      pieces = subst (λ (pieces : List Piece). Checks c.push.new.self pieces) more (c.push.ensures.pieces before c.loop-piece.invariant.pieces);
      count = omega (arith, c.push.ensures.count, c.loop-piece.invariant.count);
    }

pub returns : goal.returns
returns c =
    let bytes = c.args.sections.now in
    let start = c.args.start in
    let end = c.args.end in
    let last : c.loop-piece.piece ≡ end = omega (arith, c.loop-piece.auto.piece-end, c.loop-piece-test.false) in
    let checked = subst (λ (place : ℕ). Checks c.loop-piece.checker (pieces_between bytes start place)) last c.loop-piece.invariant.pieces in
    subst (λ (wrong : Bool). IsTrue wrong ↔ AreNoProfile bytes start end) (sym c.is_err.ensures.value)
    (fault_decides bytes start end c.finish.result (λ piece low high. c.loop-piece.invariant.kinds piece low (omega arith)) (c.finish.ensures (pieces_between bytes start end) checked))
