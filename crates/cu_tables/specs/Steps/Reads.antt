-- How far the rows of a table text were read.
use denote.Ref.{Bor}
use Rattle.std.specs.Prelude.{ℕ, List, [], ◌∷◌, ◌++◌, Some, None, ◌≡◌, Bool, true, false}
use Rattle.csv.specs.Reading.{Reached, Ready, default_config, is_flexible, source_of, strip_bom, reader_trim, reader_config, reader_state}
use Rattle.csv.specs.declared.reader.Reader.{Reader}
use Rattle.csv.specs.declared.parser.State.TheVariants as st
use Rattle.csv.specs.declared.reader.Trim.TheVariants as trim
use Rattle.cu_tables.specs.Tables.{rows_below, table}

-- these rows of the text were read, and the next read is of the row after them
pub record HasRead (r : Reader (Bor (List ℕ))) (text : List ℕ) (done : List (List (List ℕ))) : Type 0 where
  pub trim : reader_trim r ≡ trim.None
  pub ready : Ready r
  pub config : reader_config r ≡ default_config
  pub flexible : is_flexible r ≡ true
  pub unread : List ℕ
  pub source : source_of (λ (s : Bor (List ℕ)). Some s.now) r ≡ Some unread
  pub reached : Reached default_config st.StartRecord (strip_bom text) done (reader_state r) unread

-- one read: the row after those read before, or the end of the text
abbrev pub ReadsRow : Reader (Bor (List ℕ)) → List ℕ → List (List (List ℕ)) → List (List ℕ) → Bool → Type 0
ReadsRow r text done row false = table text ≡ done
ReadsRow r text done row true = HasRead r text (done ++ (row ∷ []))
    × ((rest : List (List (List ℕ))) × (table text ≡ done ++ (row ∷ rest)))

-- a first read: the header of these names and then the rows below it, or no such header
abbrev pub ReadsHeader : Reader (Bor (List ℕ)) → List ℕ → List (List ℕ) → Bool → Type 0
ReadsHeader r text names false = rows_below names (table text) ≡ None
ReadsHeader r text names true = (head : List (List ℕ)) × HasRead r text (head ∷ [])
    × ((rest : List (List (List ℕ))) → table text ≡ head ∷ rest → rows_below names (table text) ≡ Some rest)
