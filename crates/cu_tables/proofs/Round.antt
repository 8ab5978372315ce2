-- What a writer writes is the table of the records that it was given.
use Rattle.std.proofs.Common.{◌≡◌, ◌<◌, ◌∙◌, ℕ, List, [], ◌∷◌, ◌++◌, None, refl, sym, ap, arith, false, map, append_assoc}
use Rattle.std.specs.Prelude.{◌==◌}
use Rattle.std.proofs.lemmas.Bool.{ne_eqb}
use Rattle.std.proofs.lemmas.List.{append-nil}
use Rattle.csv.specs.Machine.{next_record}
use Rattle.csv.specs.Reading.{Reached, default_config, records, strip_bom}
use Rattle.csv.specs.Writing.{default_writer, read_back, row_text}
use Rattle.csv.specs.declared.parser.State.TheVariants as st
use Rattle.csv.proofs.RoundTrip.{read-write, rows_text}
use Rattle.cu_tables.specs.Tables.{table}
use Rattle.cu_tables.proofs.Whole.{all_of}

pub rows_text-append : (xs ys : List (List (List ℕ))) → rows_text (xs ++ ys) ≡ rows_text xs ++ rows_text ys
unfolding rows_text
rows_text-append [] ys = refl
rows_text-append (x ∷ xs) ys = ap (λ (t : List ℕ). row_text default_writer x ++ t) (rows_text-append xs ys) ∙ sym (append_assoc (row_text default_writer x) (rows_text xs) (rows_text ys))

pub rows_text_one : (x : List (List ℕ)) → rows_text (x ∷ []) ≡ row_text default_writer x
unfolding rows_text
rows_text_one x = append-nil (row_text default_writer x)

-- the reads of a text that was written give the records, and end at its end
reached_rows : (rows : List (List (List ℕ))) → Reached default_config st.StartRecord (rows_text rows) (map read_back rows) st.StartRecord []
unfolding Reached rows_text
reached_rows [] = (refl, refl)
reached_rows (row ∷ rows) = ((read_back row, st.StartRecord, rows_text rows), read-write row (rows_text rows), refl, reached_rows rows)

end_none : next_record default_config st.StartRecord [] [] [] ≡ None
unfolding next_record
end_none = refl

-- what was written is read as what was given
pub records_of_rows : (rows : List (List (List ℕ))) → records default_config (rows_text rows) ≡ map read_back rows
records_of_rows rows = sym (all_of default_config (rows_text rows) (map read_back rows) (st.StartRecord, [], reached_rows rows, end_none))

-- a text whose first byte is no byte of a mark keeps it
pub strip_ascii : (b : ℕ) (rest : List ℕ) → b < 128 → strip_bom (b ∷ rest) ≡ b ∷ rest
unfolding strip_bom
strip_ascii b [] h = refl
strip_ascii b (c ∷ []) h = refl
strip_ascii b (c ∷ d ∷ rest) h =
    let other : (b == 239) ≡ false = ne_eqb b 239 (λ e. absurd (omega (arith, h, e))) in
    rw other refl

-- the table of a text that was written, where no mark begins it
pub table_of_rows : (rows : List (List (List ℕ))) (first : ℕ) (rest : List ℕ) → rows_text rows ≡ first ∷ rest → first < 128
    → table (rows_text rows) ≡ map read_back rows
table_of_rows rows first rest e h =
    ap (λ (t : List ℕ). records default_config (strip_bom t)) e ∙ ap (records default_config) (strip_ascii first rest h) ∙ ap (records default_config) (sym e) ∙ records_of_rows rows

-- the table of the empty text
pub table_of_none : table (rows_text []) ≡ []
unfolding rows_text strip_bom
table_of_none = records_of_rows []
