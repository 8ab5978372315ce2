-- What one row adds to the text of a writer.
use Rattle.std.proofs.Common.{◌≡◌, ◌∙◌, ◌++◌, List, ℕ, [], ◌∷◌, Some, None, Option, option_map, length, refl, false, sym, ap}
use Rattle.csv.proofs.RoundTrip.{rows_text}
use Rattle.csv.specs.Writing.{default_writer, row_text, writer_pending, writer_under}
use Rattle.cu_tables.specs.WrittenTexts.{AddsRow, HasRows, MayFollow, WrittenText}
use Rattle.cu_tables.specs.Steps.Written.{written}
use Rattle.cu_tables.specs.declared.writing.RowWriter.TheInside.{Inside}
use Rattle.cu_tables.proofs.Round.{rows_text-append, rows_text_one}

-- behind these rows one of the same width may follow
pub may_follow : (value : Option WrittenText) (width : ℕ) (rows : List (List (List ℕ))) → HasRows value width rows → MayFollow value width
may_follow value width rows (before, e, text, fits) = rw e fits

-- rows written and then one more
pub adds_row : (old new : Option WrittenText) (width : ℕ) (rows : List (List (List ℕ))) (row : List (List ℕ)) → AddsRow old new row → width ≡ length row
    → HasRows old width rows → HasRows new width (rows ++ (row ∷ []))
adds_row old new width rows row (before, e, after) same (first, e2, text, fits) =
    let one : before ≡ first = cc (e, e2) in
    (_, after, ap (λ (w : WrittenText). w.text ++ rows_text (row ∷ [])) one ∙ ap (λ (t : List ℕ). t ++ rows_text (row ∷ [])) text ∙ sym (rows_text-append rows (row ∷ [])), same)

-- what csv's writer wrote for one row, seen as the text of the whole writer
pub row_added : (a b : Inside) (row : List (List ℕ)) → a.failed ≡ false → b.failed ≡ false → b.width ≡ Some (length row)
    → (writer_under b.writer).items ++ writer_pending b.writer ≡ ((writer_under a.writer).items ++ writer_pending a.writer) ++ row_text default_writer row
    → AddsRow (written a) (written b) row
row_added a b row ea eb width e = (
  record { text = (writer_under a.writer).items ++ writer_pending a.writer; width = a.width },
  rw ea refl,
  rw (eb, width, rows_text_one row) (ap (λ (t : List ℕ). Some (record { text = t; width = Some (length row) })) e),
)

-- before the first row
pub none_written : (value : Option WrittenText) (width : ℕ) → value ≡ Some (record { text = []; width = None }) → HasRows value width []
unfolding rows_text
none_written value width e = (_, e, refl, tt)

-- the text that was finished is that of the rows
pub rows_of : (value : Option WrittenText) (text : List ℕ) (width : ℕ) (rows : List (List (List ℕ))) → option_map (λ (w : WrittenText). w.text) value ≡ Some text
    → HasRows value width rows → text ≡ rows_text rows
rows_of value text width rows e (before, is, of, fits) = let k : before.text ≡ text = cc (rw is at e) in sym k ∙ of
