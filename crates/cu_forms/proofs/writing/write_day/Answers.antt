use Rattle.std.proofs.Common.{◌≡◌, ◌∙◌, ◌++◌, ℕ, List, [], ◌∷◌, sym, ap, arith, append_assoc}
use Rattle.std.specs.Prelude.{codes}
use Rattle.std.specs.List.{flat_map}
use Rattle.std.proofs.lemmas.Grind.{flat_map-append}
use Rattle.std.proofs.lemmas.List.{append-nil}
use Rattle.cu_io.proofs.Appending.{wrote_same, wrote_stops, wrote_then, wrote_ok}
use Rattle.cu_model.specs.declared.profiles.Piece.{Piece}
use Rattle.cu_model.specs.Days.{day}
use Rattle.cu_model.proofs.FormLaws.{has_form, has_forms, until_from, until_more}
use Rattle.cu_forms.specs.DayTexts.{day_text, piece_text}
use Rattle.cu_forms.specs.Steps.Found.{piece_found}
use Rattle.cu_forms.proofs.writing.write_day.Goals as goal

text_more : (done rest : List Piece) → day_text (done ++ rest) ≡ day_text done ++ flat_map piece_text rest
text_more done rest = ap (λ (t : List ℕ). codes "day" ++ t) (flat_map-append piece_text done rest) ∙ sym (append_assoc (codes "day") (flat_map piece_text done) (flat_map piece_text rest))

one_more : (done : List Piece) (piece : Piece) → day_text done ++ piece_text piece ≡ day_text (done ++ (piece ∷ []))
one_more done piece = sym (text_more done (piece ∷ []) ∙ ap (λ (t : List ℕ). day_text done ++ t) (append-nil (piece_text piece)))

pub returns-in_err-put_all : goal.returns-in_err-put_all
returns-in_err-put_all g c =
    let form = has_form (g.F.DayValues.value c.args.function.now) c.requires.onward in
    record { wrote = (form.0, form.1, wrote_stops (flat_map piece_text form.0) c.from_residual.ensures.0 c.in_err-put_all.ensures.wrote) }

pub pieces-preserved : goal.pieces-preserved
pieces-preserved g c =
    let f = g.F.DayValues.value c.args.function.now in
    let found = c.piece_from-piece in
    let piece = piece_found found.result in
    let before = c.pieces.invariant in (
      found.ensures.form.within,
      before.1 ++ (piece ∷ []),
      until_more f 0 c.pieces.from found.result.end before.1 piece before.2 found.ensures.begins found.ensures.form,
      wrote_same (one_more before.1 piece) (wrote_ok (wrote_then before.3 c.in_ok-put_piece.ensures.wrote)),
    )

pub returns-in_err-put_piece : goal.returns-in_err-put_piece
returns-in_err-put_piece g c =
    let f = g.F.DayValues.value c.args.function.now in
    let found = c.piece_from-piece in
    let piece = piece_found found.result in
    let before = c.pieces.invariant in
    let done = until_more f 0 c.pieces.from found.result.end before.1 piece before.2 found.ensures.begins found.ensures.form in
    let rest = has_forms f day found.result.end c.requires.onward found.ensures.form.within (omega arith) in
    let all = before.1 ++ (piece ∷ []) in
    let behind = flat_map piece_text rest.0 in
    let same = ap (λ (t : List ℕ). t ++ behind) (one_more before.1 piece) ∙ sym (text_more all rest.0) in
    let text = wrote_same same (wrote_stops behind c.from_residual-in_err-put_piece.ensures.0 (wrote_then before.3 c.in_err-put_piece.ensures.wrote)) in
    record { wrote = (all ++ rest.0, until_from f 0 found.result.end all rest.0 done rest.1, text) }

pub returns : goal.returns
returns g c =
    let f = g.F.DayValues.value c.args.function.now in
    let before = c.pieces.invariant in
    let over : c.pieces.from ≡ day = omega (arith, before.0, c.pieces-test.false) in
    let last = until_from f 0 c.pieces.from before.1 [] before.2 over in
    record { wrote = (before.1 ++ [], last, wrote_same (sym (ap day_text (append-nil before.1))) (wrote_ok before.3)) }
